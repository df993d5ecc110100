use Rattle.std.proofs.Common.{◌≡◌, take}
use Rattle.std.specs.List.{flat_map}
use Rattle.sled_rules.specs.Alternatives.{sequence_choices}
use Rattle.sled_rules.proofs.expanding.alternatives.Given as goal

abbrev pub invariant-loop-items : goal.invariant-loop-items
invariant-loop-items l = l.all ≡ flat_map (sequence_choices l.names l.ops) (take l.items-index l.items-items)
