use Rattle.c_lower.proofs.GroundBound.{instructions_lowered}
use Rattle.c_lower.proofs.instruction_law.Goals as goal

pub returns : goal.returns
returns c = instructions_lowered
