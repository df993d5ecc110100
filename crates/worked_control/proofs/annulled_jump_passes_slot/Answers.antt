use Rattle.worked_control.proofs.WorkedRuns.{annulled_jump_passes_slot}
use Rattle.worked_control.proofs.annulled_jump_passes_slot.Goals as goal

pub returns : goal.returns
returns c = annulled_jump_passes_slot
