use Rattle.std.proofs.Common.{◌≡◌, [], ◌∷◌, map, drop}
use Rattle.ssl_core.specs.Fresh.{are_fresh}
use Rattle.ssl_core.proofs.FreshLemmas.{names_in}
use Rattle.ssl_core.proofs.once.are_new_params.Given as goal

abbrev pub invariant-loop-param : goal.invariant-loop-param
invariant-loop-param l =
    are_fresh l.given.tables.names (names_in l.seen) (map (λ p. p.name) (drop l.param-index l.params))
    ≡ are_fresh l.given.tables.names [] (l.function ∷ map (λ p. p.name) l.params)
