-- No two programs have one C text.
use Rattle.std.specs.Prelude.{◌≡◌, ℕ, List}
use Rattle.c_lang.specs.declared.tree.Program.{Program}
use Rattle.c_lang.specs.Spellable.{HasSpelling}
use Rattle.c_text.specs.Items.{program_toks}
use Rattle.c_text.specs.Spells.{Spells}

-- programs with the same tokens are the same, if both have a spelling: a name has no more than the last 8 hexadecimal
-- digits of an address
abbrev pub NoTwoSpellings : Type 0
NoTwoSpellings = (p q : Program) → HasSpelling p → HasSpelling q → program_toks p ≡ program_toks q → p ≡ q

-- programs with one text are the same
abbrev pub OneProgram : Type 0
OneProgram = (text : List ℕ) (p q : Program) → Spells text p → Spells text q → p ≡ q
