use Rattle.std.proofs.Common.{◌≡◌, true, take}
use Rattle.std.specs.List.{list_all}
use Rattle.ssl_rules.specs.LineScope.{scope}
use Rattle.ssl_rules.specs.Known.{is_known_expr}
use Rattle.ssl_checks.proofs.known.+known.Given as goal

abbrev pub invariant-are_known-loop-e : goal.invariant-are_known-loop-e
invariant-are_known-loop-e l = list_all (is_known_expr l.names.surplus.now (scope l.names.line)) (take l.e-index l.es) ≡ true
