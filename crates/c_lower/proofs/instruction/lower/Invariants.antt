use Rattle.std.proofs.Common.{◌≡◌, ◌++◌, [], drop}
use Rattle.c_lower.specs.Lowered.{transfers_code, lowered}
use Rattle.c_lower.proofs.instruction.lower.Given as goal

-- with the statements of the transfers to come they are those of the instruction
abbrev pub invariant-loop-transfer : goal.invariant-loop-transfer
invariant-loop-transfer l = l.out ++ transfers_code l.machine l.pc (drop l.transfer-index l.transfer-items) [] ≡ lowered l.machine l.pc l.inst.transfers []
