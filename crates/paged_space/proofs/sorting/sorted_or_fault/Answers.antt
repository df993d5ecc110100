use Rattle.std.proofs.Common.{sym, ap, ◌∙◌}
use Rattle.paged_space.proofs.Sorted.{past_fault, order_clear, order_fault}
use Rattle.paged_space.proofs.sorting.sorted_or_fault.Goals as goal
use Rattle.paged_space.specs.Sorting.{rises, values}

pub first_fault-requires : goal.first_fault-requires
first_fault-requires c = past_fault c.args.ranges.now (sym c.any_past.ensures ∙ c.if-any_past.true)

pub returns-then-is_rising : goal.returns-then-is_rising
returns-then-is_rising c =
    let r = sym (c.is_rising.ensures ∙ ap (λ xs. rises 0 (values xs)) c.deref.ensures.value) ∙ c.if-is_rising.true in
    (c.in-Ok.ensures, r, order_clear c.args.ranges.now (values c.in-Ok.order.items) c.in-Ok.ensures r (sym c.any_past.ensures ∙ c.if-any_past.false))

pub first_fault-requires-2 : goal.first_fault-requires-2
first_fault-requires-2 c =
    let r = sym (c.is_rising.ensures ∙ ap (λ xs. rises 0 (values xs)) c.deref.ensures.value) ∙ c.if-is_rising.false in
    order_fault c.args.ranges.now (values c.in-Ok.order.items) c.in-Ok.ensures r (sym c.any_past.ensures ∙ c.if-any_past.false)
