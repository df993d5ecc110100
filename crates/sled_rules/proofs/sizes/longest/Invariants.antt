use Rattle.std.proofs.Common.{◌≡◌, min, take}
use Rattle.sled_rules.specs.Sizes.{longest}
use Rattle.sled_rules.proofs.sizes.longest.Given as goal

abbrev pub invariant-loop-items : goal.invariant-loop-items
invariant-loop-items l = l.most ≡ min (longest l.facts (take l.items-index l.all)) 33
