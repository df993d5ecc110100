use denote.Ref.{Bor}
use Rattle.std.proofs.Common.{sym, ap, subst, List, ◌∙◌}
use Rattle.paged_space.specs.declared.range.Range.{Range}
use Rattle.paged_space.specs.LaidOut.{IsBuilt, pages_of_all}
use Rattle.paged_space.specs.Sorting.{values}
use Rattle.paged_space.proofs.Sorted.{order_pages}
use Rattle.paged_space.proofs.Answered.{built_from}
use Rattle.paged_space.proofs.space.Space.build.Goals as goal

pub of_sorted-requires-clause-pages : goal.of_sorted-requires-clause-pages
of_sorted-requires-clause-pages c =
    c.frames_of-pages.ensures
    ∙ sym (order_pages c.args.ranges.now (values c.in-Ok.order.items) c.in-Ok.ensures.0)
    ∙ sym (ap (λ xs. pages_of_all (values xs)) c.deref.ensures.value)

pub returns-in-Ok-of_sorted : goal.returns-in-Ok-of_sorted
returns-in-Ok-of_sorted c =
    let b = subst (λ (xs : List (Bor Range)). IsBuilt (values xs) c.in-Ok-of_sorted.space c.args.pool.now c.of_sorted.new.pool) c.deref.ensures.value c.in-Ok-of_sorted.ensures in
    built_from c.args.ranges.now (values c.in-Ok.order.items) _ _ _ c.in-Ok.ensures.0 c.in-Ok.ensures.1 c.in-Ok.ensures.2 b
