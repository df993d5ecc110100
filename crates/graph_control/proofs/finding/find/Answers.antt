use Rattle.graph_control.proofs.Searched.{found_ok, found_err}
use Rattle.graph_control.proofs.finding.find.Goals as goal

pub returns-in-Ok : goal.returns-in-Ok
returns-in-Ok g c =
    found_ok g.T.PartialEq.eq g.T.Ord.cmp g.met.T.Ord.total g.met.T.Ord.matches_eq c.requires.same c.args.items.now c.args.item.now c.in-Ok.at c.binary_search.result
    c.binary_search.ensures.bound c.binary_search.ensures.position c.in-Ok.is

pub returns-in-Err : goal.returns-in-Err
returns-in-Err g c =
    found_err g.T.PartialEq.eq g.T.Ord.cmp g.met.T.Ord.total g.met.T.Ord.matches_eq c.requires.same c.args.items.now c.args.item.now c.in-Err.field-0 c.binary_search.result
    c.binary_search.ensures.position c.in-Err.is
