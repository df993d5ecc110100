use Rattle.std.proofs.Common.{◌≡◌, ◌-◌, length}
use Rattle.points.specs.Tables.{most_before}
use Rattle.jumptables.specs.Influence.{way_decides}
use Rattle.jumptables.proofs.search.Search.decides.Given as goal

abbrev pub invariant-loop-k : goal.invariant-loop-k
invariant-loop-k l = record {
  left : way_decides l.self.links l.self.at (most_before - l.k) l.pc l.flags ≡ way_decides l.self.links l.self.at most_before l.start l.fn.flags;
  count : length l.flags ≡ length l.fn.flags;
}
