-- The numbers of an ELF file, in its byte order (System V ABI, "Data Representation").
use Rattle.std.specs.Prelude.{ℕ, List, drop}
use Rattle.rtl_core.specs.declared.expr.Order.{Order}
use Rattle.rtl_core.specs.Access.{number}

-- the number of the two bytes at a place
unfoldable pub half : Order → List ℕ → ℕ → ℕ
half order file at = number order 2 (drop at file)

-- the number of the four bytes at a place
unfoldable pub word : Order → List ℕ → ℕ → ℕ
word order file at = number order 4 (drop at file)
