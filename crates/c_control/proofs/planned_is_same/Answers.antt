use Rattle.c_control.proofs.PlannedSame.{planned-is-same}
use Rattle.c_control.proofs.planned_is_same.Goals as goal

pub returns : goal.returns
returns c = planned-is-same
