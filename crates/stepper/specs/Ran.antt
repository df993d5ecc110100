-- What a run of some steps comes to.
use Rattle.std.specs.Prelude.{◌≡◌, ℕ, true, ◌≤◌, List, [], ◌++◌, length, take, Option, Some, None}
use Rattle.lockstep.specs.Runs.{Goes, Ends, after}
use Rattle.lockstep.specs.Meets.{next_out}
use Rattle.rtl_core.specs.declared.stop.RunEnd.{RunEnd}
use Rattle.rtl_core.specs.declared.stop.RunEnd.TheVariants.{Stopped, Spent, WriteFault}
use Rattle.rtl_core.specs.declared.stop.Stop.{Stop}
use Rattle.points.specs.Machine.{MNext, step}
use Rattle.edge_io.specs.Output.{Output, TookPart}
use Rattle.edge_io.specs.Told.{followed}
use Rattle.stepper.specs.Shown.{Shown, IsReady, state_of}

-- where the machine is n steps after a guest's state, with this output before
abbrev pub ran : Shown → ℕ → List ℕ → MNext
ran g n before = after (step g.setting) n (Goes (state_of before g.state))

-- what those steps append to the output
abbrev pub written : Shown → ℕ → List ℕ
written g n = next_out (λ s. s.output) (ran g n [])

-- whatever the output before, n steps append the same to it
abbrev pub AddsWritten : Shown → ℕ → Type 0
AddsWritten g n = (before : List ℕ) → next_out (λ s. s.output) (ran g n before) ≡ before ++ written g n

-- the end of a run that made one step
abbrev pub end_after : Option Stop → RunEnd
end_after None = Spent
end_after (Some stop) = Stopped stop

-- where a run of n steps led, from one guest to another: to its stop where it has one within n steps, else on; either way
-- with its output behind any that was before
abbrev pub Came : RunEnd → Shown → Shown → ℕ → Type 0
Came (Stopped stop) old new n = (before : List ℕ) → ran old n before ≡ Ends (before ++ written old n) stop
Came Spent old new n = (before : List ℕ) → ran old n before ≡ Goes (state_of (before ++ written old n) new.state)
Came WriteFault old new n = Unit {0}

-- a guest whose run came to a stop has stopped
abbrev pub TellsStop : RunEnd → Shown → Type 0
TellsStop (Stopped stop) g = g.stopped ≡ true
TellsStop _ g = Unit {0}

-- a sink took a front of the bytes
pub record TookPrefix (old new : Output) (bytes : List ℕ) : Type 0 where
  pub count : ℕ
  pub within : count ≤ length bytes
  pub taken : new.taken ≡ followed old.taken (take count bytes)

-- memory ran out behind some whole steps, whose output was put out, and the guest can go on from there
pub record MadeSome (old new : Shown) (n : ℕ) (out out' : Output) : Type 0 where
  pub steps : ℕ
  pub within : steps ≤ n
  pub came : Came Spent old new steps
  pub took : out'.taken ≡ followed out.taken (written old steps)
  pub ready : IsReady new

-- what a sink took of the output of a run: all of it, unless it failed
abbrev pub Took : RunEnd → Output → Output → List ℕ → Type 0
Took (Stopped stop) old new bytes = new.taken ≡ followed old.taken bytes
Took Spent old new bytes = new.taken ≡ followed old.taken bytes
Took WriteFault old new bytes = TookPart old new bytes
