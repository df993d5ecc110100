use Rattle.std.proofs.Common.{◌≡◌, true, take}
use Rattle.std.specs.List.{list_all}
use Rattle.ssl_rules.specs.LineScope.{scope}
use Rattle.ssl_rules.specs.Places.{act_assigns_place}
use Rattle.ssl_checks.proofs.instructions.are_places_assigned.Given as goal

abbrev pub invariant-loop-transfer : goal.invariant-loop-transfer
invariant-loop-transfer l = list_all (λ t. act_assigns_place (scope l.names) t.act) (take l.transfer-index l.transfers) ≡ true
