use Rattle.ssl_core.specs.State.{shown}
use Rattle.ssl_core.proofs.OwnLemmas.{AreReadTo}
use Rattle.ssl_core.proofs.own.own_operands.Given as goal

abbrev pub invariant-loop-k : goal.invariant-loop-k
invariant-loop-k l = AreReadTo l.enc (shown l.given) l.ops l.kinds l.k l.own
