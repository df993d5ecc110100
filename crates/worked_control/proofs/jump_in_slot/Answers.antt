use Rattle.worked_control.proofs.WorkedRuns.{jump_in_slot}
use Rattle.worked_control.proofs.jump_in_slot.Goals as goal

pub returns : goal.returns
returns c = jump_in_slot
