use Rattle.std.proofs.Common.{◌≡◌, drop}
use Rattle.points.specs.Kinds.{jump_target}
use Rattle.points.proofs.jumps.jump_target.Given as goal

abbrev pub invariant-loop-transfer : goal.invariant-loop-transfer
invariant-loop-transfer l = jump_target (drop l.transfer-index l.transfers) ≡ jump_target l.transfers
