use Rattle.worked_control.proofs.WorkedRuns.{slot_is_done}
use Rattle.worked_control.proofs.slot_is_done.Goals as goal

pub returns : goal.returns
returns c = slot_is_done
