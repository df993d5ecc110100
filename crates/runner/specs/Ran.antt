-- What a run of some steps comes to.
use Rattle.std.specs.Prelude.{◌≡◌, ℕ, true, List, [], ◌++◌, Option, Some, None}
use Rattle.lockstep.specs.Runs.{Goes, Ends, after}
use Rattle.lockstep.specs.Meets.{next_out}
use Rattle.rtl_core.specs.declared.stop.RunEnd.{RunEnd}
use Rattle.rtl_core.specs.declared.stop.RunEnd.TheVariants.{Stopped, Spent, WriteFault}
use Rattle.rtl_core.specs.declared.stop.Stop.{Stop}
use Rattle.page_pool.specs.Frames.{Frames}
use Rattle.points.specs.Control.{Flow}
use Rattle.points.specs.Running.{MNext, step}
use Rattle.edge_io.specs.Output.{Output, TookPart}
use Rattle.edge_io.specs.Told.{followed}
use Rattle.runner.specs.declared.run_state.RunState.{RunState}
use Rattle.runner.specs.Shown.{Shown, state_of}

-- the state of a run, with the frames of its pool
pub record Moment : Type 0 where
  pub state : RunState
  pub frames : Frames

abbrev pub moment_of : RunState → Frames → Moment
moment_of s frames = record { state = s; frames = frames }

-- where the machine is n steps later, with this output before
abbrev pub ran : Flow → Moment → ℕ → List ℕ → MNext
ran f s n before = after (step f) n (Goes (state_of before s.frames s.state))

-- what those steps append to the output
abbrev pub written : Flow → Moment → ℕ → List ℕ
written f s n = next_out (λ t. t.output) (ran f s n [])

-- the end of a run that made one step
abbrev pub end_after : Option Stop → RunEnd
end_after None = Spent
end_after (Some stop) = Stopped stop

-- where a run of n steps led: to its stop where it has one within n steps, else on; either way with its output behind any that
-- was before
abbrev pub Came : Flow → RunEnd → Moment → Moment → ℕ → Type 0
Came f (Stopped stop) old new n = (before : List ℕ) → ran f old n before ≡ Ends (before ++ written f old n) stop
Came f Spent old new n = (before : List ℕ) → ran f old n before ≡ Goes (state_of (before ++ written f old n) new.frames new.state)
Came f WriteFault old new n = Unit {0}

-- a guest whose run came to a stop has stopped
abbrev pub TellsStop : RunEnd → Shown → Type 0
TellsStop (Stopped stop) g = g.stopped ≡ true
TellsStop _ g = Unit {0}

-- what a sink took of the output of a run: all of it, unless it failed
abbrev pub Took : RunEnd → Output → Output → List ℕ → Type 0
Took (Stopped stop) old new bytes = new.taken ≡ followed old.taken bytes
Took Spent old new bytes = new.taken ≡ followed old.taken bytes
Took WriteFault old new bytes = TookPart old new bytes

-- whatever the output before, n steps append the same to it
abbrev pub AddsWritten : Flow → Moment → ℕ → Type 0
AddsWritten f s n = (before : List ℕ) → next_out (λ t. t.output) (ran f s n before) ≡ before ++ written f s n
