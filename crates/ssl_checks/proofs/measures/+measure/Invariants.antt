use Rattle.ssl_rules.specs.LineScope.{scope}
use Rattle.ssl_rules.specs.Widths.{measured}
use Rattle.ssl_checks.proofs.ArgumentLemmas.{AreRead}
use Rattle.ssl_checks.proofs.measures.+measure.Given as goal

abbrev pub invariant-call-loop-e : goal.invariant-call-loop-e
invariant-call-loop-e l = AreRead (measured (scope l.names)) l.function.params l.args l.e-index l.params l.ranged l.differs
