use Rattle.ssl_checks.proofs.WindowLemmas.{IsRead-more}
use Rattle.ssl_checks.proofs.windows.group_differs.Goals as goal

pub loop-k-preserved : goal.loop-k-preserved
loop-k-preserved c =
    rw (c.or-differs.ensures, c.cell_differs.ensures)
    (IsRead-more c.args.tables.now c.args.first c.args.count c.loop-k.k c.loop-k.differs c.loop-k-test.true c.loop-k.invariant)
