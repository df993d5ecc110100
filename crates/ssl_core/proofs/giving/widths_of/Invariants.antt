use Rattle.std.proofs.Common.{◌≡◌, map, take}
use Rattle.ssl_core.proofs.giving.widths_of.Given as goal

abbrev pub invariant-loop-param : goal.invariant-loop-param
invariant-loop-param l = l.widths ≡ map (λ p. p.width) (take l.param-index l.params)
