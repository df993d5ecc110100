use Rattle.std.proofs.Common.{◌≡◌, ◌++◌, take}
use Rattle.sled_rules.proofs.expanding.push_copies.Given as goal

abbrev pub invariant-loop-item : goal.invariant-loop-item
invariant-loop-item l = l.out ≡ l.initial.out ++ take l.item-index l.items
