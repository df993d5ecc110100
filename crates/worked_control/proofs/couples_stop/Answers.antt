use Rattle.worked_control.proofs.WorkedRuns.{couples_stop}
use Rattle.worked_control.proofs.couples_stop.Goals as goal

pub returns : goal.returns
returns c = couples_stop
