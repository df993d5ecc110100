use Rattle.std.proofs.Common.{◌≡◌}
use Rattle.jumptables.specs.Runs.{state, HasRoom}
use Rattle.jumptables.specs.Search.{sought, runs, known_below}
use Rattle.jumptables.proofs.search.Search.known_targets.Given as goal

abbrev pub invariant-loop-x : goal.invariant-loop-x
invariant-loop-x l = record {
  so_far : l.known.items ≡ known_below (runs (sought l.self) l.start l.cell) l.x;
  room : HasRoom l.self.on.machine.now (state l.run);
}
