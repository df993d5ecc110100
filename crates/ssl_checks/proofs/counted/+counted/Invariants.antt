use Rattle.std.proofs.Common.{◌≡◌, true, take}
use Rattle.std.specs.List.{list_all}
use Rattle.ssl_rules.specs.LineScope.{scope}
use Rattle.ssl_rules.specs.Counted.{is_counted_expr}
use Rattle.ssl_checks.proofs.counted.+counted.Given as goal

abbrev pub invariant-are_counted-loop-e : goal.invariant-are_counted-loop-e
invariant-are_counted-loop-e l = list_all (is_counted_expr (scope l.names)) (take l.e-index l.es) ≡ true
