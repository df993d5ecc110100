use Rattle.std.proofs.Common.{◌≡◌, ◌-◌}
use Rattle.points.specs.Tables.{most_before}
use Rattle.jumptables.specs.Links.{mention}
use Rattle.jumptables.proofs.search.Search.mentions.Given as goal

abbrev pub invariant-loop-k : goal.invariant-loop-k
invariant-loop-k l = mention l.self.links l.self.at l.cell (most_before - l.k) l.pc ≡ mention l.self.links l.self.at l.cell most_before l.start
