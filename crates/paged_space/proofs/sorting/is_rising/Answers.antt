use Rattle.std.proofs.Common.{◌+◌, ◌≤◌, length, drop, sym, ap, ◌∙◌, arith}
use Rattle.std.specs.Prelude.{◌&&◌}
use Rattle.paged_space.proofs.LaidMap.{values_drop, values_long}
use Rattle.paged_space.proofs.Sorted.{rises_cons, rises_end}
use Rattle.paged_space.proofs.sorting.is_rising.Goals as goal
use Rattle.paged_space.specs.Sorting.{rises, values}
use Rattle.paged_space.specs.Ranges.{end_of}

pub loop-range-preserved : goal.loop-range-preserved
loop-range-preserved c =
    let d = values_drop c.args.order.now c.loop-range.range-index c.range-item.result c.loop-range-test.true c.range-item.is in
    let g = sym c.may_follow.ensures ∙ c.if-not-may_follow.false in
    ap (λ n. rises n (drop (c.loop-range.range-index + 1) (values c.args.order.now))) c.end-low.ensures
    ∙ sym (ap (λ b. b && rises (end_of c.range-item.result.now) (drop (c.loop-range.range-index + 1) (values c.args.order.now))) g)
    ∙ sym (rises_cons c.loop-range.low c.range-item.result.now (drop (c.loop-range.range-index + 1) (values c.args.order.now)))
    ∙ sym (ap (rises c.loop-range.low) d) ∙ c.loop-range.invariant

pub returns-then-not-may_follow : goal.returns-then-not-may_follow
returns-then-not-may_follow c =
    let d = values_drop c.args.order.now c.loop-range.range-index c.range-item.result c.loop-range-test.true c.range-item.is in
    let g = sym c.may_follow.ensures ∙ c.if-not-may_follow.true in
    sym (ap (λ b. b && rises (end_of c.range-item.result.now) (drop (c.loop-range.range-index + 1) (values c.args.order.now))) g)
    ∙ sym (rises_cons c.loop-range.low c.range-item.result.now (drop (c.loop-range.range-index + 1) (values c.args.order.now)))
    ∙ sym (ap (rises c.loop-range.low) d) ∙ c.loop-range.invariant

pub returns : goal.returns
returns c =
    let n = values_long c.args.order.now in
    let e : length (values c.args.order.now) ≤ c.loop-range.range-index = (let t = c.loop-range-test.false in omega (arith, n, t)) in
    sym (rises_end c.loop-range.low (values c.args.order.now) c.loop-range.range-index e) ∙ c.loop-range.invariant
