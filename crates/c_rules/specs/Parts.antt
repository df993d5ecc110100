-- The parts of a C text by what they hold.
use Rattle.std.specs.Prelude.{ℕ, List}
use Rattle.c_lang.specs.declared.tree.CBlock.{CBlock}
use Rattle.c_lang.specs.declared.tree.Function.{Function}
use Rattle.c_lang.specs.Items.{Array, Prototype}

-- the array that declares this length and has these numbers
abbrev pub array : ℕ → List ℕ → Array
array declared numbers = record { declared = declared; numbers = numbers }

-- the prototype of this address with these parameters
abbrev pub prototype : ℕ → List ℕ → Prototype
prototype entry params = record { entry = entry; params = params }

-- the function of this head, with these cells, so many temporaries, and these blocks
abbrev pub function : Prototype → List ℕ → ℕ → List CBlock → Function
function head cells temps blocks = record { entry = head.entry; params = head.params; cells = cells; temps = temps; blocks = blocks }
