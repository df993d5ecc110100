use Rattle.std.proofs.Common.{ℕ, ◌<◌}
use Rattle.jumptables.specs.Runs.{state, HasRoom}
use Rattle.jumptables.specs.Search.{sought, NoneOf}
use Rattle.jumptables.proofs.search.Search.first.Given as goal

abbrev pub invariant-loop-count : goal.invariant-loop-count
invariant-loop-count l = record {
  below : (n : ℕ) → n < l.count → NoneOf (sought l.self) l.kind n;
  room : HasRoom l.self.on.machine.now (state l.run);
}
