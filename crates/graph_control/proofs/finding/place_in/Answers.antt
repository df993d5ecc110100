use Rattle.graph_control.proofs.Searched.{place_found, place_missing}
use Rattle.graph_control.proofs.finding.place_in.Goals as goal

pub returns-in-Some : goal.returns-in-Some
returns-in-Some g c = place_found g.T.Ord.cmp c.args.items.now c.args.item.now c.in-Some.at c.find.result c.find.ensures c.in-Some.is

pub returns-in-None : goal.returns-in-None
returns-in-None g c = place_missing g.T.Ord.cmp c.args.items.now c.args.item.now _ c.find.result c.find.ensures c.in-None.is
