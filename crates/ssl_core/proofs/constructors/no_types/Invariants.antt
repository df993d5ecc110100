use Rattle.std.proofs.Common.{◌≡◌, replicate}
use Rattle.ssl_core.proofs.constructors.no_types.Given as goal

abbrev pub invariant-loop-k : goal.invariant-loop-k
invariant-loop-k l = l.types ≡ replicate l._k 0
