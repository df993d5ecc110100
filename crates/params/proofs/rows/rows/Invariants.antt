use Rattle.std.proofs.Common.{◌≡◌, length, take}
use Rattle.std.specs.List.Sorted.{IsStrictlySortedBy}
use Rattle.std.specs.Ordering.{nat_cmp}
use Rattle.params.specs.Leading.{AreRows}
use Rattle.params.proofs.rows.rows.Given as goal

abbrev pub invariant-loop-place : goal.invariant-loop-place
invariant-loop-place l = record {
  count : length l.rows.items ≡ length l.keys;
  rows : IsStrictlySortedBy nat_cmp l.keys → AreRows l.keys (take l.place l.lists) l.rows.items;
}
