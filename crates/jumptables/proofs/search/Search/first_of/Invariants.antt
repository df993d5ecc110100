use Rattle.std.proofs.Common.{ℕ, ◌<◌, ◌-◌}
use Rattle.jumptables.specs.Runs.{state, HasRoom}
use Rattle.jumptables.specs.Search.{sought, IsGood}
use Rattle.jumptables.proofs.search.Search.first_of.Given as goal

abbrev pub invariant-loop-back : goal.invariant-loop-back
invariant-loop-back l = record {
  below : (b : ℕ) → b < l.back → (c : ℕ) → IsGood (sought l.self) l.kind l.count (l.self.at - b) c → ⊥;
  room : HasRoom l.self.on.machine.now (state l.run);
}
