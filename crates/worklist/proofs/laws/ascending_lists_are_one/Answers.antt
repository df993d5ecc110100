use Rattle.worklist.proofs.Alike.{one_ascending}
use Rattle.worklist.proofs.laws.ascending_lists_are_one.Goals as goal

pub returns : goal.returns
returns g c = one_ascending g.T.Ord.cmp g.met.T.Ord.total
