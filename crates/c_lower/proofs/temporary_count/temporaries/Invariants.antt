use Rattle.std.proofs.Common.{◌≡◌, ◌≤◌, max, drop}
use Rattle.c_lower.specs.Accounts.{lowered_need}
use Rattle.c_lower.proofs.temporary_count.temporaries.Given as goal

abbrev pub invariant-loop-transfer : goal.invariant-loop-transfer
invariant-loop-transfer l = (4 ≤ l.most) × (max l.most (lowered_need (drop l.transfer-index l.transfer-items)) ≡ lowered_need l.inst.transfers)
