-- What the C text of a program is made from.
use Rattle.std.specs.Prelude.{ℕ, ◌+◌, ◌-◌, ◌*◌, ◌%◌, ◌^◌, List, Option, Some, None}
use Rattle.rtl_core.specs.declared.point.Point.{Point}
use Rattle.rtl_core.specs.declared.point.Slot.TheVariants.{Dyn}
use Rattle.points.specs.Machine.{Setting}
use Rattle.points.specs.Kinds.{second}
use Rattle.points.specs.Courses.{point}
use Rattle.points.specs.Control.{Flow}
use Rattle.c_control.specs.Choice.{Tree}

-- the program, for each procedure the cells that it gets and those that it hands back, and the choice among all procedures
pub record Plan : Type 0 where
  pub flow : Flow
  pub refs : ℕ → List ℕ
  pub mods : ℕ → List ℕ
  pub tree : Tree

-- the bytes from a return address to its second return point, 0 without one
abbrev pub pad_by : ℕ → Option ℕ → ℕ
pad_by back None = 0
pad_by back (Some s) = (s + (2 ^ 32 - back)) % 2 ^ 32

abbrev pub pad_at : Setting → ℕ → ℕ
pad_at setting back = pad_by back (second setting back)

-- a return address as a call passes it in `ra`: with the bytes to the second return point
abbrev pub ra_of : Setting → ℕ → ℕ
ra_of setting back = back + 2 ^ 33 * pad_at setting back

-- `ra` of the first call, which no return address is
abbrev pub no_return : ℕ
no_return = 2 ^ 32

-- the label of the further block that does the arrival of a jump at an address alone; no point has it, since no instruction
-- stands in its own slot
abbrev pub further_label : ℕ → Point
further_label pc = point pc (Dyn pc)
