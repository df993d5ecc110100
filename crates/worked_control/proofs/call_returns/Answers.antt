use Rattle.worked_control.proofs.WorkedRuns.{call_returns}
use Rattle.worked_control.proofs.call_returns.Goals as goal

pub returns : goal.returns
returns c = call_returns
