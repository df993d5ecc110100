use Rattle.worked_control.proofs.WorkedRuns.{return_past_pad}
use Rattle.worked_control.proofs.return_past_pad.Goals as goal

pub returns : goal.returns
returns c = return_past_pad
