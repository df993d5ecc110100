use Rattle.params.proofs.PlanClosed.{are-closed}
use Rattle.params.proofs.laws.summaries_are_closed.Goals as goal

pub returns : goal.returns
returns c = are-closed
