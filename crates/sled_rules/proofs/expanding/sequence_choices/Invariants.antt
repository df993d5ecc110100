use Rattle.std.proofs.Common.{◌≡◌, take}
use Rattle.sled_rules.specs.Alternatives.{sequence_choices}
use Rattle.sled_rules.proofs.expanding.sequence_choices.Given as goal

abbrev pub invariant-loop-item : goal.invariant-loop-item
invariant-loop-item l = l.xs ≡ sequence_choices l.names l.ops (take l.item-index l.items)
