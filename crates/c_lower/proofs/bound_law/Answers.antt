use Rattle.c_lower.proofs.GroundBound.{all_within}
use Rattle.c_lower.proofs.bound_law.Goals as goal

pub returns : goal.returns
returns c = all_within
