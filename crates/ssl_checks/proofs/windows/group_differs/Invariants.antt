use Rattle.ssl_checks.proofs.WindowLemmas.{IsRead}
use Rattle.ssl_checks.proofs.windows.group_differs.Given as goal

abbrev pub invariant-loop-k : goal.invariant-loop-k
invariant-loop-k l = IsRead l.tables l.first l.count l.k l.differs
