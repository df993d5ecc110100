use Rattle.worked_control.proofs.WorkedNexts.{at_once}
use Rattle.worked_control.proofs.at_once.Goals as goal

pub returns : goal.returns
returns c = at_once
