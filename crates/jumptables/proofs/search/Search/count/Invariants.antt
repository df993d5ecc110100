use Rattle.std.proofs.Common.{◌≡◌, ◌+◌, ◌-◌, option_map}
use Rattle.points.specs.Tables.{most_before}
use Rattle.jumptables.specs.Links.{counted}
use Rattle.jumptables.proofs.search.Search.count.Given as goal

abbrev pub invariant-loop-k : goal.invariant-loop-k
invariant-loop-k l = option_map (λ n. l.k + n) (counted l.self.links l.self.at (most_before - l.k) l.pc) ≡ counted l.self.links l.self.at most_before l.start
