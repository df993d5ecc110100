-- What a guest shows of the machine's definition.
use Rattle.std.specs.Prelude.{◌≡◌, ◌<◌, ◌^◌, ℕ, Bool, false, List, [], Option, Some, None}
use Rattle.lockstep.specs.Runs.{Goes}
use Rattle.rtl_core.specs.declared.inst.GroundInst.{GroundInst}
use Rattle.rtl_core.specs.declared.stop.Stop.{Stop}
use Rattle.rtl_meaning.specs.declared.effect.Effect.{Effect}
use Rattle.rtl_meaning.specs.Saved.{Fits}
use Rattle.points.specs.Bundles.{IsSoundSetting}
use Rattle.points.specs.Machine.{Setting, State, Did, MNext, stops}
use Rattle.space.specs.Ranges.{memory_of}
use Rattle.stepper.specs.declared.run_state.RunState.{RunState}

-- the state that a run is in, with this output so far
abbrev pub state_of : List ℕ → RunState → State
state_of output s = record {
  cells = s.cells.values;
  memory = memory_of s.space;
  saved = s.windows;
  point = s.point;
  target = 0;
  calls = [];
  input = s.streams.input;
  output = output;
  heap_end = s.streams.heap_end;
}

-- the cells and the saved windows are those of the machine, and the break has 32 bits
abbrev pub FitsSetting : Setting → RunState → Type 0
FitsSetting setting s = Fits setting.machine s.cells.values s.windows × (s.streams.heap_end < 2 ^ 32)

-- what is true at each moment of a run
pub record IsWhole (setting : Setting) (s : RunState) : Type 0 where
  pub sound : IsSoundSetting setting
  pub fits : FitsSetting setting s

-- what an instruction did that matters to control
abbrev pub did_of : GroundInst → Effect → Did
did_of inst effect = record { inst = inst; jump = effect.jump; annul = effect.annul }

-- where a step led: on to a state, or to a stop with the output of that state
abbrev pub moment : Option Stop → State → MNext
moment None s = Goes s
moment (Some stop) s = stops s stop

-- what contracts see of a guest: the setting of its run, the state that it is in, and whether it has stopped
pub record Shown : Type 0 where
  pub setting : Setting
  pub state : RunState
  pub stopped : Bool

-- a guest that can go on: it has not stopped, and nothing waits to be put out
pub record IsReady (g : Shown) : Type 0 where
  pub going : g.stopped ≡ false
  pub empty : g.state.streams.pending ≡ []
