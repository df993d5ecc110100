use Rattle.std.proofs.Common.{◌≡◌, ◌+◌, ◌<◌, ◌^◌, ℕ, suc, false, drop, get_or, sym, ap, subst, ◌∙◌, arith, rules}
use Rattle.std.specs.Prelude.{◌&&◌, nat_le}
use Rattle.std.proofs.lemmas.Grind.{get_or_default_zero}
use Rattle.page_pool.specs.Frames.{IsHeld, holders_of}
use Rattle.paged_space.specs.Moves.{one_if}
use Rattle.paged_space.specs.Follows.{shared_in}
use Rattle.paged_space.proofs.WholeSpace.{standing_held}
use Rattle.paged_space.proofs.Shares.{shared_end, shared_most, shared_next}
use Rattle.paged_space.proofs.sharing.count_shared.Goals as goal

pub shared_page-count-requires : goal.shared_page-count-requires
shared_page-count-requires c =
    subst (λ (f : ℕ). IsHeld c.args.pool.now f) (sym (c.index-frames-k.is ∙ get_or_default_zero c.args.frames.now c.loop-k.k c.index-frames-k.result c.loop-k-test.true))
    (standing_held c.args.frames.now c.loop-k.k c.args.pool.now c.requires.stand c.loop-k-test.true)

pub loop-k-preserved : goal.loop-k-preserved
loop-k-preserved c =
    let n = shared_next c.args.writes.now c.args.frames.now c.loop-k.k c.args.pool.now c.requires.long c.loop-k-test.true in
    let p = c.shared_page-count.ensures in
    let i = c.loop-k.invariant in
    let e : c.loop-k.k + 1 ≡ suc c.loop-k.k = omega arith in
    let r = ap (λ k. shared_in (drop k c.args.writes.now) (drop k c.args.frames.now) c.args.pool.now) e in
    let f = c.index-frames-k.is ∙ get_or_default_zero c.args.frames.now c.loop-k.k c.index-frames-k.result c.loop-k-test.true in
    let g = ap (λ x. one_if (get_or c.args.writes.now c.loop-k.k false && nat_le 2 (holders_of c.args.pool.now x))) f in
    omega (arith, n, p, i, r, g)

pub returns : goal.returns
returns c =
    let i = c.loop-k.invariant in
    let z = shared_end c.args.writes.now c.args.frames.now c.loop-k.k c.args.pool.now c.requires.long c.loop-k-test.false in
    omega (arith, i, z)

pub overflow_add-count : goal.overflow_add-count
overflow_add-count c =
    let n = shared_next c.args.writes.now c.args.frames.now c.loop-k.k c.args.pool.now c.requires.long c.loop-k-test.true in
    let m = shared_most c.args.writes.now c.args.frames.now c.args.pool.now in
    let p = c.shared_page-count.ensures in
    let i = c.loop-k.invariant in
    let f = c.index-frames-k.is ∙ get_or_default_zero c.args.frames.now c.loop-k.k c.index-frames-k.result c.loop-k-test.true in
    let g = ap (λ x. one_if (get_or c.args.writes.now c.loop-k.k false && nat_le 2 (holders_of c.args.pool.now x))) f in
    let few = c.requires.few in
    let fits : c.loop-k.count + c.shared_page-count.result < 2 ^ 32 = omega (arith, n, m, p, i, g, few) in
    search rules
