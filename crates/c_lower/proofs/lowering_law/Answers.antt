use Rattle.c_lower.proofs.Acts.{is_lowered}
use Rattle.c_lower.proofs.lowering_law.Goals as goal

pub returns : goal.returns
returns c = is_lowered
