use Rattle.std.proofs.Common.{◌≡◌, length, take}
use Rattle.std.specs.List.Sorted.{IsStrictlySortedBy}
use Rattle.std.specs.Ordering.{nat_cmp}
use Rattle.params.specs.Leading.{AreAdded}
use Rattle.params.proofs.rows.add_list.Given as goal

abbrev pub invariant-loop-item : goal.invariant-loop-item
invariant-loop-item l = record {
  count : length l.rows.items ≡ length l.fn.rows.items;
  added : length l.fn.rows.items ≡ length l.keys → IsStrictlySortedBy nat_cmp l.keys → AreAdded l.keys (take l.item-index l.list) l.place l.fn.rows.items l.rows.items;
}
