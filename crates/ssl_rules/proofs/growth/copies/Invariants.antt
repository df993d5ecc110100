use Rattle.std.proofs.Common.{◌≡◌, replicate}
use Rattle.ssl_rules.proofs.growth.copies.Given as goal

abbrev pub invariant-loop-k : goal.invariant-loop-k
invariant-loop-k l = l.widths ≡ replicate l._k l.width
