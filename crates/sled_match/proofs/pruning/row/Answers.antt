use Rattle.sled_match.proofs.AllowsLaws.{row-right}
use Rattle.sled_match.proofs.pruning.row.Goals as goal

pub returns : goal.returns
returns c = row-right c.args.order c.args.coded.now c.places.result c.places.ensures
