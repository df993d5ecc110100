use Rattle.std.proofs.Common.{rules}
use denote.Ref.{Bor}
use Rattle.std.proofs.lemmas.List.Sorted.{IsNonDecreasingBy-from_sort_by_key}
use Rattle.paged_space.specs.declared.range.Range.{Range}
use Rattle.paged_space.proofs.Sorted.{sorted_order}
use Rattle.paged_space.proofs.sorting.in_order.Goals as goal

pub returns : goal.returns
returns c = sorted_order c.args.ranges.now c.in_ok-order.order.items c.sort_unstable_by_key.new.self.items c.in_ok-order.ensures c.sort_unstable_by_key.ensures.permutation
    (IsNonDecreasingBy-from_sort_by_key (λ (b : Bor Range). b.now.base) c.sort_unstable_by_key.new.self.items c.sort_unstable_by_key.ensures.sorted (λ a r q k. search rules))
