use Rattle.params.proofs.OneList.{one-whole-list}
use Rattle.params.proofs.laws.whole_summaries_are_one.Goals as goal

pub returns : goal.returns
returns c = one-whole-list
