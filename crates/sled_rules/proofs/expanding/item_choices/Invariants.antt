use Rattle.std.proofs.Common.{◌≡◌, take}
use Rattle.sled_rules.proofs.CountLaws.{part_rows}
use Rattle.sled_rules.proofs.expanding.item_choices.Given as goal

abbrev pub invariant-loop-part : goal.invariant-loop-part
invariant-loop-part l = l.xs ≡ part_rows l.names l.ops (take l.part-index l.part-items)
