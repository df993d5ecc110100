use Rattle.worked_control.proofs.WorkedRuns.{table_leads}
use Rattle.worked_control.proofs.table_leads.Goals as goal

pub returns : goal.returns
returns c = table_leads
