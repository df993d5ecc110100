use Rattle.std.proofs.Common.{◌≡◌, take}
use Rattle.ssl_rules.specs.LineScope.{scope}
use Rattle.ssl_rules.specs.Templates.{transfers_nodes}
use Rattle.ssl_nodes.specs.Sums.{few}
use Rattle.ssl_templates.proofs.counts.transfers_count.Given as goal

abbrev pub invariant-loop-transfer : goal.invariant-loop-transfer
invariant-loop-transfer l = l.count ≡ few (transfers_nodes (scope l.names) (take l.transfer-index l.transfers))
