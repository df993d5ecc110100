use Rattle.std.proofs.Common.{◌≡◌, sym, ap, ◌∙◌}
use Rattle.paged_space.proofs.Sorted.{past_fault, order_clear, order_fault}
use Rattle.paged_space.proofs.sorting.is_clear.Goals as goal
use Rattle.paged_space.specs.Sorting.{rises, values}

pub returns-then-any_past : goal.returns-then-any_past
returns-then-any_past c = record { good = λ e. cc; bad = λ _. past_fault c.args.ranges.now (sym c.any_past.ensures ∙ c.if-any_past.true) }

pub returns : goal.returns
returns c =
    let r : c.is_rising.result ≡ rises 0 (values c.in_ok-order.order.items) = c.is_rising.ensures ∙ ap (λ xs. rises 0 (values xs)) c.deref.ensures.value in
    let p = sym c.any_past.ensures ∙ c.if-any_past.false in
    record {
      good = λ e. order_clear c.args.ranges.now (values c.in_ok-order.order.items) c.in_ok-order.ensures (sym r ∙ e) p;
      bad = λ e. order_fault c.args.ranges.now (values c.in_ok-order.order.items) c.in_ok-order.ensures (sym r ∙ e) p;
    }
