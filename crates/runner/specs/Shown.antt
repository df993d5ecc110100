-- What a guest shows of the machine's definition.
use Rattle.std.specs.Prelude.{◌≡◌, ℕ, Bool, false, List, [], Option, Some, None}
use Rattle.lockstep.specs.Runs.{Goes}
use Rattle.rtl_core.specs.declared.stop.Stop.{Stop}
use Rattle.page_pool.specs.Frames.{Frames}
use Rattle.paged_space.specs.PageTable.{contents_of}
use Rattle.points.specs.Running.{State, MNext, stops}
use Rattle.graph_control.specs.Charts.{Chart, control_of}
use Rattle.runner.specs.declared.run_state.RunState.{RunState}

-- the state that a run is in, with these frames in its pool and this output so far
abbrev pub state_of : List ℕ → Frames → RunState → State
state_of output frames s = record {
  cells = s.cells.values;
  memory = contents_of s.space frames;
  saved = s.windows;
  control = control_of s.position;
  input = s.streams.input;
  output = output;
  heap_end = s.streams.heap_end;
}

-- where a step led: on to a state, or to a stop with the output of that state
abbrev pub moment : Option Stop → State → MNext
moment None s = Goes s
moment (Some stop) s = stops stop s

-- what contracts see of a guest: what its run is made on, the state that it is in, and whether it has stopped
pub record Shown : Type 0 where
  pub chart : Chart
  pub state : RunState
  pub stopped : Bool

-- a guest that can go on: it has not stopped, and nothing waits to be put out
pub record IsReady (g : Shown) : Type 0 where
  pub going : g.stopped ≡ false
  pub empty : g.state.streams.pending ≡ []
