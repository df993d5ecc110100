use Rattle.std.proofs.Common.{◌≡◌}
use Rattle.ssl_rules.specs.TableGrowth.{whole_cells}
use Rattle.ssl_rules.proofs.growth.whole_cells.Given as goal

abbrev pub invariant-loop-k : goal.invariant-loop-k
invariant-loop-k l = l.parts ≡ whole_cells l.first l.width l.k
