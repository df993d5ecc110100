use Rattle.worked_control.proofs.WorkedNexts.{from_slot}
use Rattle.worked_control.proofs.from_slot.Goals as goal

pub returns : goal.returns
returns c = from_slot
