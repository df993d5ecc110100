use Rattle.std.proofs.Common.{◌≡◌, false, replicate}
use Rattle.jumptables.proofs.mentions.unset.Given as goal

abbrev pub invariant-loop-k : goal.invariant-loop-k
invariant-loop-k l = l.flags ≡ replicate l.k false
