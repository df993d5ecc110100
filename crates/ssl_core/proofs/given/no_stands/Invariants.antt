use Rattle.std.proofs.Common.{◌≡◌, None, replicate}
use Rattle.ssl_core.proofs.given.no_stands.Given as goal

abbrev pub invariant-loop-k : goal.invariant-loop-k
invariant-loop-k l = l.stands ≡ replicate l._k None
