use Rattle.worked_control.proofs.WorkedRuns.{untaken_passes_slot}
use Rattle.worked_control.proofs.untaken_passes_slot.Goals as goal

pub returns : goal.returns
returns c = untaken_passes_slot
