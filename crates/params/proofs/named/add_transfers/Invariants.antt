use Rattle.std.proofs.Common.{◌≡◌, ◌++◌, take}
use Rattle.points.specs.Summaries.{transfers_name}
use Rattle.params.proofs.named.add_transfers.Given as goal

abbrev pub invariant-loop-transfer : goal.invariant-loop-transfer
invariant-loop-transfer l = l.cells ≡ l.fn.cells ++ transfers_name l.machine l.conv (take l.transfer-index l.transfers)
