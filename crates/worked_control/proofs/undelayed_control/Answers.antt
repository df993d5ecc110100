use Rattle.worked_control.proofs.WorkedRuns.{undelayed_control}
use Rattle.worked_control.proofs.undelayed_control.Goals as goal

pub returns : goal.returns
returns c = undelayed_control
