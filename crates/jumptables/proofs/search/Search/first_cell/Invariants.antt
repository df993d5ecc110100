use Rattle.std.proofs.Common.{ℕ, ◌<◌}
use Rattle.jumptables.specs.Runs.{state, HasRoom}
use Rattle.jumptables.specs.Search.{sought, Works}
use Rattle.jumptables.proofs.search.Search.first_cell.Given as goal

abbrev pub invariant-loop-cell : goal.invariant-loop-cell
invariant-loop-cell l = record {
  below : (c : ℕ) → c < l.cell → Works (sought l.self) l.kind l.start c → ⊥;
  room : HasRoom l.self.on.machine.now (state l.run);
}
