use Rattle.std.proofs.Common.{◌≡◌, true, take}
use Rattle.std.specs.List.{list_all}
use Rattle.ssl_rules.specs.LineScope.{scope}
use Rattle.ssl_rules.specs.Known.{is_known_transfer}
use Rattle.ssl_checks.proofs.instructions.are_known_transfers.Given as goal

abbrev pub invariant-loop-transfer : goal.invariant-loop-transfer
invariant-loop-transfer l = list_all (is_known_transfer l.names.surplus.now (scope l.names.line) l.windows) (take l.transfer-index l.transfers) ≡ true
