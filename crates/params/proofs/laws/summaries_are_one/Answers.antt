use Rattle.params.proofs.OneList.{one-list}
use Rattle.params.proofs.laws.summaries_are_one.Goals as goal

pub returns : goal.returns
returns c = one-list
