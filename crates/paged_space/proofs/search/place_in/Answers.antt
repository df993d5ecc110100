use Rattle.std.proofs.Common.{rules, ℕ, ◌<◌, length, sym, arith, subst}
use Rattle.paged_space.proofs.Places.{Below, place_behind, place_between, place_here, place_within}
use Rattle.paged_space.proofs.search.place_in.Goals as goal

pub returns-then-at-extents : goal.returns-then-at-extents
returns-then-at-extents c =
    sym (place_behind c.args.extents.now c.args.a (subst (λ (n : ℕ). Below c.args.extents.now c.args.a n) c.if-at-extents.true c.requires.passed.below))

pub returns-then-a-extent : goal.returns-then-a-extent
returns-then-a-extent c =
    let p = c.requires.passed in
    let w : c.args.at < length c.args.extents.now = (let a = p.within in let b = c.if-at-extents.false in omega (arith, a, b)) in
    sym (place_between 0 0 c.args.pages c.args.extents.now c.args.a c.args.at (record { base = 0; len = 0; first = 0 }) c.requires.laid p.below w c.if-a-extent.true)

pub overflow_add-result : goal.overflow_add-result
overflow_add-result c =
    let p = c.requires.passed in
    let w : c.args.at < length c.args.extents.now = (let a = p.within in let b = c.if-at-extents.false in omega (arith, a, b)) in
    let h = place_here c.args.extents.now c.args.a c.args.at (record { base = 0; len = 0; first = 0 }) p.below w c.if-a-extent.false (p.above (record { base = 0; len = 0; first = 0 }) w) in
    let r = (place_within 0 0 c.args.pages c.args.extents.now c.args.a _ c.requires.laid h).1 in
    let f = c.ranges.pages in
    search rules

pub returns : goal.returns
returns c =
    let p = c.requires.passed in
    let w : c.args.at < length c.args.extents.now = (let a = p.within in let b = c.if-at-extents.false in omega (arith, a, b)) in
    sym (place_here c.args.extents.now c.args.a c.args.at (record { base = 0; len = 0; first = 0 }) p.below w c.if-a-extent.false (p.above (record { base = 0; len = 0; first = 0 }) w))
