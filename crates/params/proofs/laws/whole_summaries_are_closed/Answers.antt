use Rattle.params.proofs.PlanClosed.{whole-are-closed}
use Rattle.params.proofs.laws.whole_summaries_are_closed.Goals as goal

pub returns : goal.returns
returns c = whole-are-closed
