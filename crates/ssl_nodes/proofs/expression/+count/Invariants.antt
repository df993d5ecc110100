use Rattle.std.proofs.Common.{◌≡◌, map, take}
use Rattle.ssl_rules.specs.LineScope.{scope}
use Rattle.ssl_rules.specs.Formulas.{expanded, nodes}
use Rattle.ssl_nodes.specs.Sums.{few}
use Rattle.ssl_nodes.proofs.expression.+count.Given as goal

abbrev pub invariant-call_count-loop-e : goal.invariant-call_count-loop-e
invariant-call_count-loop-e l = l.counts ≡ map (λ e. few (nodes (expanded (scope l.names) e))) (take l.e-index l.args)
