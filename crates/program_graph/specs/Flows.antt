-- What control asks of a program is one, as far as its run can tell.
use Rattle.std.specs.Prelude.{◌≡◌, ℕ, List}
use Rattle.rtl_core.specs.Contents.{Contents}
use Rattle.points.specs.Bundles.{LieInMemory}
use Rattle.points.specs.Control.{Flow}
use Rattle.points.specs.Flows.{IsFlow}
use Rattle.points.specs.Machine.{Setting}
use Rattle.points.specs.Running.{machine_run}

-- whatever functions give the tables and tell the procedures of a program, its run is the same
abbrev pub FlowsRunAlike : Type 0
FlowsRunAlike = (setting : Setting) (entry : ℕ) (symbols : List ℕ) (f g : Flow) → LieInMemory setting.frozen → IsFlow setting entry symbols f → IsFlow setting entry symbols g
    → (memory : Contents) (start : ℕ) (input : List ℕ) (n : ℕ) → machine_run f memory start input n ≡ machine_run g memory start input n
