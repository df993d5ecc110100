use Rattle.std.proofs.Common.{◌≤◌, length, take}
use Rattle.std.specs.List.{All, Contains}
use Rattle.worklist.specs.Closures.{IsExtended}
use Rattle.worklist.proofs.sets.ascending_set.Given as goal

abbrev pub invariant-loop-item : goal.invariant-loop-item
invariant-loop-item g l = record {
  extended : IsExtended l.items l.initial.set.keys l.set.keys;
  all : All (Contains l.set.keys) (take l.item-index l.items);
  fewer : length l.set.keys ≤ l.item-index;
}
