use Rattle.std.proofs.Common.{◌≡◌, take}
use Rattle.std.specs.List.{list_any}
use Rattle.sled_rules.specs.Faults.{lacks, repeats}
use Rattle.sled_rules.proofs.unknown.binding_of.Given as goal

abbrev pub invariant-loop-items : goal.invariant-loop-items
invariant-loop-items l = record {
  unbound : l.unbound ≡ list_any (lacks l.names l.ops) (take l.items-index l.items-items);
  twice : l.twice ≡ list_any (repeats l.names l.ops) (take l.items-index l.items-items);
}
