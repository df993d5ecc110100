use Rattle.std.proofs.Common.{◌≡◌, true, take}
use Rattle.std.specs.List.{list_all}
use Rattle.ssl_rules.specs.LineScope.{scope}
use Rattle.ssl_rules.specs.Widths.{is_transfer_in_range}
use Rattle.ssl_checks.proofs.instructions.are_transfers_in_range.Given as goal

abbrev pub invariant-loop-transfer : goal.invariant-loop-transfer
invariant-loop-transfer l = list_all (is_transfer_in_range (scope l.names)) (take l.transfer-index l.transfers) ≡ true
