use Rattle.std.proofs.Common.{◌≡◌, ◌++◌, map, take}
use Rattle.sled_rules.specs.Alternatives.{onto_first}
use Rattle.sled_rules.proofs.expanding.push_onto.Given as goal

abbrev pub invariant-loop-right : goal.invariant-loop-right
invariant-loop-right l = l.out ≡ l.initial.out ++ map (onto_first l.left) (take l.right-index l.ys)
