use Rattle.std.proofs.Common.{◌≡◌, ℕ, List, min, take, length}
use Rattle.std.specs.List.{flat_map}
use Rattle.sled_rules.specs.Alternatives.{sequence_choices}
use Rattle.sled_rules.proofs.counting.has_many.Given as goal

abbrev pub invariant-loop-items : goal.invariant-loop-items
invariant-loop-items l = (ops : List (List ℕ)) → l.count ≡ min (length (flat_map (sequence_choices l.names ops) (take l.items-index l.pattern.alternatives))) 257
