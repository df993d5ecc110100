use Rattle.worked_control.proofs.WorkedNexts.{from_seq}
use Rattle.worked_control.proofs.from_seq.Goals as goal

pub returns : goal.returns
returns c = from_seq
