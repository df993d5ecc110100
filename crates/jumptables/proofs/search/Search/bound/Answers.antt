use Rattle.std.proofs.Common.{sym, ◌∙◌, subst}
use Rattle.points.specs.Tables.{StaysWithin}
use Rattle.jumptables.specs.Search.{sought, runs}
use Rattle.jumptables.proofs.Influenced.{uninfluenced}
use Rattle.jumptables.proofs.FirstTrial.{bound-of}
use Rattle.jumptables.proofs.search.Search.bound.Goals as goal

pub returns-then-not-influences-clause-bound : goal.returns-then-not-influences-clause-bound
returns-then-not-influences-clause-bound c =
    let a = c.args in
    uninfluenced (sought a.self.now) c.requires.searchable a.start a.cell c.requires.cell (sym c.influences.ensures.influences ∙ c.if-not-influences.true)

pub returns-clause-bound : goal.returns-clause-bound
returns-clause-bound c =
    let a = c.args in
    bound-of (runs (sought a.self.now) a.start a.cell) (subst StaysWithin c.run-first.ensures.is (c.stays_within.ensures.0 c.if-not-stays_within.false)) c.leaving.result c.leaving.ensures.least
