use Rattle.std.proofs.Common.{ℕ, ◌<◌}
use Rattle.points.specs.Tables.{GivesCode}
use Rattle.jumptables.specs.Runs.{state, HasRoom}
use Rattle.jumptables.specs.Search.{sought, runs}
use Rattle.jumptables.proofs.search.Search.open_end.Given as goal

abbrev pub invariant-loop-x : goal.invariant-loop-x
invariant-loop-x l = record {
  below : (x : ℕ) → x < l.x → GivesCode l.self.on.frozen.now (runs (sought l.self) l.start l.cell x);
  room : HasRoom l.self.on.machine.now (state l.run);
}
