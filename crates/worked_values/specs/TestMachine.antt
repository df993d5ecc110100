-- The machine that the tests of transfers run.
use Rattle.std.specs.Prelude.{◌≡◌, [], ◌∷◌, Some}
use Rattle.rtl_core.specs.declared.machine.Machine.{Machine}

-- a zero cell, one out, one local and one in cell, all of 32 bits, and one cell of 64 bits
pub record IsSmall (m : Machine) : Type 0 where
  pub widths : m.widths ≡ 32 ∷ 32 ∷ 32 ∷ 32 ∷ 64 ∷ []
  pub zeroed : m.zero ≡ Some 0
  pub windows : m.windows ≡ Some (record { out_first = 1; local_first = 2; in_first = 3; count = 1 })
