use Rattle.ssl_core.specs.State.{shown}
use Rattle.ssl_core.proofs.MostLemmas.{AreMostTo}
use Rattle.ssl_core.proofs.stands.most_nodes.Given as goal

abbrev pub invariant-loop-constructor : goal.invariant-loop-constructor
invariant-loop-constructor l = AreMostTo (shown l.given) l.constructors l.constructor-index l.read l.assigned
