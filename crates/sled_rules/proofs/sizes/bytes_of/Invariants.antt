use Rattle.std.proofs.Common.{◌≡◌, min, take}
use Rattle.sled_rules.specs.Sizes.{bytes_of}
use Rattle.sled_rules.proofs.sizes.bytes_of.Given as goal

abbrev pub invariant-loop-item : goal.invariant-loop-item
invariant-loop-item l = l.bytes ≡ min (bytes_of l.facts (take l.item-index l.items)) 33
