use Rattle.worked_control.proofs.WorkedRuns.{runs_off}
use Rattle.worked_control.proofs.runs_off.Goals as goal

pub returns : goal.returns
returns c = runs_off
