use Rattle.std.proofs.Common.{◌≡◌, take}
use Rattle.std.specs.List.{filter_map}
use Rattle.sled_rules.specs.Meanings.{named}
use Rattle.sled_rules.specs.Operands.{kind_of}
use Rattle.sled_rules.proofs.operands.kinds_of.Given as goal

abbrev pub invariant-loop-op : goal.invariant-loop-op
invariant-loop-op l = l.kinds ≡ filter_map (λ op. kind_of (named l.names op)) (take l.op-index l.ops)
