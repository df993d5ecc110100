use Rattle.worked_control.proofs.DeepRuns.{call_list_is_full}
use Rattle.worked_control.proofs.call_list_is_full.Goals as goal

pub returns : goal.returns
returns c = call_list_is_full
