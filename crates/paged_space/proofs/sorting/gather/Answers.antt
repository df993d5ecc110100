use Rattle.std.proofs.Common.{◌+◌, ◌++◌, ◌≤◌, length, drop, sym, ap, ◌∙◌, arith, append_assoc}
use Rattle.std.proofs.lemmas.List.{append-nil}
use Rattle.paged_space.proofs.Sorted.{kept_one, nonempty_end, drop_next}
use Rattle.paged_space.proofs.sorting.gather.Goals as goal
use Rattle.paged_space.specs.Sorting.{kept, nonempty, values}

pub loop-range-preserved : goal.loop-range-preserved
loop-range-preserved c =
    let d = drop_next c.args.ranges.now c.loop-range.range-index c.range-item.result c.loop-range-test.true c.range-item.is in
    ap (λ xs. xs ++ nonempty (drop (c.loop-range.range-index + 1) c.args.ranges.now)) c.in_ok-keep.ensures
    ∙ append_assoc (values c.loop-range.some.items) (kept c.range-item.result) (nonempty (drop (c.loop-range.range-index + 1) c.args.ranges.now))
    ∙ ap (λ xs. values c.loop-range.some.items ++ xs) (sym (kept_one c.range-item.result (drop (c.loop-range.range-index + 1) c.args.ranges.now)) ∙ ap nonempty (sym d))
    ∙ c.loop-range.invariant

pub returns : goal.returns
returns c =
    let e : length c.args.ranges.now ≤ c.loop-range.range-index = omega arith in
    sym (append-nil (values c.loop-range.some.items)) ∙ ap (λ xs. values c.loop-range.some.items ++ xs) (sym (nonempty_end c.args.ranges.now c.loop-range.range-index e)) ∙ c.loop-range.invariant
