use Rattle.ssl_core.proofs.OwnLemmas.{AreParamsTo}
use Rattle.ssl_core.proofs.own.own_params.Given as goal

abbrev pub invariant-loop-place : goal.invariant-loop-place
invariant-loop-place l = AreParamsTo l.params l.place l.own
