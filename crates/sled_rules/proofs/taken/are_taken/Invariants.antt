use Rattle.std.proofs.Common.{◌≡◌, [], ◌∷◌, map, drop}
use Rattle.sled_rules.specs.Faults.{some_taken}
use Rattle.sled_rules.proofs.taken.are_taken.Given as goal

abbrev pub invariant-loop-field : goal.invariant-loop-field
invariant-loop-field l =
    some_taken l.names (map (λ e. e.0) l.seen) (map (λ f. f.name) (drop l.field-index l.fields)) ≡ some_taken l.names [] (l.token ∷ map (λ f. f.name) l.fields)
