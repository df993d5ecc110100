use Rattle.std.proofs.Common.{◌≡◌, ◌+◌, ℕ, sym, ap, subst, ◌∙◌, arith}
use Rattle.std.specs.Prelude.{Some}
use Rattle.paged_space.proofs.Sorted.{between_all, fault_at as fault_there}
use Rattle.paged_space.proofs.sorting.first_fault.Goals as goal
use Rattle.paged_space.specs.Sorting.{Between}

pub loop-bounds-init : goal.loop-bounds-init
loop-bounds-init c = between_all c.args.ranges.now c.requires

pub returns : goal.returns
returns c =
    let o = c.loop-bounds.invariant.order in
    let t = c.loop-bounds-test.false in
    let e : c.loop-bounds.bounds.high ≡ c.loop-bounds.bounds.low + 1 = omega (arith, o, t) in
    fault_there c.args.ranges.now c.loop-bounds.bounds.low c.index-ranges-bounds.result (subst (λ (h : ℕ). Between c.args.ranges.now c.loop-bounds.bounds.low h) e c.loop-bounds.invariant) c.index-ranges-bounds.is
    ∙ ap Some (sym c.fault_at.ensures)
