use Rattle.worked_control.proofs.WorkedRuns.{other_return_stops}
use Rattle.worked_control.proofs.other_return_stops.Goals as goal

pub returns : goal.returns
returns c = other_return_stops
