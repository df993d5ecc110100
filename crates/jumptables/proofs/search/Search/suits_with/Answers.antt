use Rattle.std.proofs.Common.{sym, ◌∙◌}
use Rattle.jumptables.specs.Search.{sought}
use Rattle.jumptables.proofs.IdleCells.{suits-idly, idly-suits}
use Rattle.jumptables.proofs.search.Search.suits_with.Goals as goal

pub returns-else-mentions-clause-suits : goal.returns-else-mentions-clause-suits
returns-else-mentions-clause-suits c =
    let a = c.args in
    let g = sought a.self.now in
    let off = sym c.mentions.ensures ∙ c.if-mentions.false in (
      λ h. suits-idly g c.requires.searchable a.start a.cell c.requires.cell off a.kind (c.requires.idly.0 h),
      λ h. c.requires.idly.1 (idly-suits g c.requires.searchable a.start a.cell c.requires.cell off a.kind h),
    )
