use Rattle.std.proofs.Common.{◌≡◌, ℕ, List, min, take, length}
use Rattle.sled_rules.specs.Alternatives.{sequence_choices}
use Rattle.sled_rules.proofs.counting.sequence_count.Given as goal

abbrev pub invariant-loop-item : goal.invariant-loop-item
invariant-loop-item l = (ops : List (List ℕ)) → l.count ≡ min (length (sequence_choices l.names ops (take l.item-index l.items))) 257
