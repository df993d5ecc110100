use Rattle.std.proofs.Common.{◌≡◌, take}
use Rattle.std.specs.List.{flat_map}
use Rattle.sled_rules.specs.Operands.{item_binds}
use Rattle.sled_rules.proofs.operands.sequence_binds.Given as goal

abbrev pub invariant-loop-item : goal.invariant-loop-item
invariant-loop-item l = l.binds.items ≡ flat_map (item_binds l.names l.ops) (take l.item-index l.items)
