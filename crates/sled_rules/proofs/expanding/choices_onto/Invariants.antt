use Rattle.std.proofs.Common.{◌≡◌, ◌++◌, map, take}
use Rattle.std.specs.List.{flat_map}
use Rattle.sled_rules.specs.Alternatives.{onto_first}
use Rattle.sled_rules.proofs.expanding.choices_onto.Given as goal

abbrev pub invariant-loop-left : goal.invariant-loop-left
invariant-loop-left l = l.all ≡ flat_map (λ x. map (onto_first x) l.ys) (take l.left-index l.xs)
