use Rattle.std.proofs.Common.{◌≡◌, ◌++◌, take}
use Rattle.std.specs.List.{filter_map}
use Rattle.sled_rules.specs.Operands.{part_binds}
use Rattle.sled_rules.proofs.operands.push_item.Given as goal

abbrev pub invariant-loop-part : goal.invariant-loop-part
invariant-loop-part l = l.binds.items ≡ l.initial.binds.items ++ filter_map (part_binds l.names l.ops) (take l.part-index l.part-items)
