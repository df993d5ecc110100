use Rattle.std.proofs.Common.{◌≡◌, ℕ, List, min, take, length}
use Rattle.sled_rules.proofs.CountLaws.{part_rows}
use Rattle.sled_rules.proofs.counting.item_count.Given as goal

abbrev pub invariant-loop-part : goal.invariant-loop-part
invariant-loop-part l = (ops : List (List ℕ)) → l.count ≡ min (length (part_rows l.names ops (take l.part-index l.part-items))) 257
