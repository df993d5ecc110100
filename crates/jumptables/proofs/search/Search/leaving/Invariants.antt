use Rattle.std.proofs.Common.{ℕ, ◌<◌}
use Rattle.points.specs.Tables.{IsLeaving}
use Rattle.jumptables.specs.Runs.{state, HasRoom}
use Rattle.jumptables.specs.Search.{sought, runs}
use Rattle.jumptables.proofs.search.Search.leaving.Given as goal

abbrev pub invariant-loop-x : goal.invariant-loop-x
invariant-loop-x l = record {
  below : (x : ℕ) → x < l.x → IsLeaving (runs (sought l.self) l.start l.cell) x → ⊥;
  room : HasRoom l.self.on.machine.now (state l.run);
}
