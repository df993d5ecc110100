use Rattle.worked_control.proofs.WorkedRuns.{computed_call}
use Rattle.worked_control.proofs.computed_call.Goals as goal

pub returns : goal.returns
returns c = computed_call
