use Rattle.ssl_rules.specs.LineScope.{scope}
use Rattle.ssl_templates.proofs.ArgumentLemmas.{ArePut}
use Rattle.ssl_templates.proofs.expressions.+expansion.Given as goal

abbrev pub invariant-call-loop-e : goal.invariant-call-loop-e
invariant-call-loop-e l = ArePut (scope l.names) l.function.body l.args l.e-index l.put
