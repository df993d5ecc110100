use Rattle.std.proofs.Common.{◌≡◌, ◌++◌, map, take}
use Rattle.sled_rules.proofs.expanding.push_behind.Given as goal

abbrev pub invariant-loop-right : goal.invariant-loop-right
invariant-loop-right l = l.out ≡ l.initial.out ++ map (λ y. l.left ++ y) (take l.right-index l.ys)
