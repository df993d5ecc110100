use Rattle.worked_control.proofs.FoundProcedures.{tails_are_procedures}
use Rattle.worked_control.proofs.tails_are_procedures.Goals as goal

pub returns : goal.returns
returns c = tails_are_procedures
