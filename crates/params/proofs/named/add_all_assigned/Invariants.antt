use Rattle.std.proofs.Common.{◌≡◌, ◌++◌, take}
use Rattle.points.specs.Summaries.{transfers_assign}
use Rattle.params.proofs.named.add_all_assigned.Given as goal

abbrev pub invariant-loop-transfer : goal.invariant-loop-transfer
invariant-loop-transfer l = l.cells ≡ l.fn.cells ++ transfers_assign l.machine l.conv (take l.transfer-index l.transfers)
