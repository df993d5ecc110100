use Rattle.std.proofs.Common.{Some, sym, ◌∙◌, ap}
use Rattle.jumptables.specs.Search.{sought}
use Rattle.jumptables.proofs.FirstTrial.{good-least}
use Rattle.jumptables.proofs.search.Search.cell_of.Goals as goal

pub returns-clause-least : goal.returns-clause-least
returns-clause-least c =
    let a = c.args in
    good-least (sought a.self.now) a.kind a.count a.start (sym c.count.ensures ∙ c.in-Some.is ∙ ap Some c.if-found-count.false) c.first_cell.result c.first_cell.ensures.least
