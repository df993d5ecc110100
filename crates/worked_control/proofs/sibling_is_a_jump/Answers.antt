use Rattle.worked_control.proofs.WorkedRuns.{sibling_is_a_jump}
use Rattle.worked_control.proofs.sibling_is_a_jump.Goals as goal

pub returns : goal.returns
returns c = sibling_is_a_jump
