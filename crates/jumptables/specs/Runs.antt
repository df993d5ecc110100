-- What a partial run keeps, and what it asks of the descriptions.
use Rattle.std.specs.Prelude.{◌≡◌, ℕ, ◌+◌, ◌<◌, ◌≤◌, length, Option, None, Some}
use Rattle.rtl_core.specs.declared.conv.ServiceShape.{ServiceShape}
use Rattle.rtl_core.specs.declared.machine.Machine.{Machine}
use Rattle.rtl_core.specs.declared.machine.WinShape.{WinShape}
use Rattle.rtl_core.specs.SoundTerms.{AreWidths, Fit}
use Rattle.points.specs.Machine.{Setting}
use Rattle.points.specs.PartialRuns.{PartialState, PartialEnd}
use Rattle.jumptables.specs.declared.partial_run.PartialRun.{PartialRun}
use Rattle.jumptables.specs.declared.partial_run.RunEnd.{RunEnd}

-- what a run knows
abbrev pub state : PartialRun → PartialState
state run = record { values = run.cells.values; known = run.known; taken = run.taken; untaken = run.untaken; passes = run.passes; target = run.target }

-- what it comes to
abbrev pub end_of : RunEnd → PartialEnd
end_of e = record { leaves = e.leaves; untaken = e.untaken; target = e.target }

-- each cell has a value and a flag
pub record HasRoom (m : Machine) (k : PartialState) : Type 0 where
  pub count : length k.values ≡ length m.widths
  pub flags : length k.known ≡ length m.widths

-- the values fit the cells, and each cell has a flag
pub record IsWhole (m : Machine) (k : PartialState) : Type 0 where
  pub fit : Fit m k.values
  pub flags : length k.known ≡ length m.widths

-- a cell, if any
abbrev pub IsThere : Machine → Option ℕ → Type 0
IsThere m None = Unit {0}
IsThere m (Some c) = c < length m.widths

-- the cells that a service assigns
abbrev pub AreAssigned : Machine → Option ServiceShape → Type 0
AreAssigned m None = Unit {0}
AreAssigned m (Some shape) = (shape.result < length m.widths) × IsThere m shape.error

-- so many cells from the first on
pub record IsGroup (m : Machine) (first count : ℕ) : Type 0 where
  pub there : first + count ≤ length m.widths
  pub few : first + count < 256

-- the cells of windows, where there are any
abbrev pub AreGroups : Machine → Option WinShape → Type 0
AreGroups m None = Unit {0}
AreGroups m (Some w) = IsGroup m w.out_first w.count × IsGroup m w.local_first w.count × IsGroup m w.in_first w.count

-- what runs ask of the descriptions; sound ones have it
pub record IsReady (s : Setting) : Type 0 where
  pub widths : AreWidths s.machine.widths
  pub few : length s.machine.widths < 256
  pub zero : IsThere s.machine s.machine.zero
  pub service : AreAssigned s.machine s.conv.service
  pub windows : AreGroups s.machine s.machine.windows
