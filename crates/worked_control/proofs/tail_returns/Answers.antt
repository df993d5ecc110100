use Rattle.worked_control.proofs.WorkedRuns.{tail_returns}
use Rattle.worked_control.proofs.tail_returns.Goals as goal

pub returns : goal.returns
returns c = tail_returns
