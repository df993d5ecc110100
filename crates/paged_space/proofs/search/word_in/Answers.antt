use Rattle.std.proofs.Common.{rules, ◌+◌, ◌≤◌, ◌<◌, ◌%◌, length, get_or, arith}
use Rattle.paged_space.specs.PageTable.{extent_end}
use Rattle.paged_space.proofs.Places.{place_here, place_within, on_page}
use Rattle.paged_space.proofs.search.word_in.Goals as goal

pub overflow_add-result : goal.overflow_add-result
overflow_add-result c =
    let p = c.requires.passed in
    let w : c.args.at < length c.args.extents.now = (let a = p.within in let b = c.if-at-extents.false in omega (arith, a, b)) in
    let h = place_here c.args.extents.now c.args.a c.args.at (record { base = 0; len = 0; first = 0 }) p.below w c.if-a-extent.false (p.above (record { base = 0; len = 0; first = 0 }) w) in
    let r = (place_within 0 0 c.args.pages c.args.extents.now c.args.a _ c.requires.laid h).1 in
    let f = c.ranges.pages in
    search rules

pub returns : goal.returns
returns c =
    let p = c.requires.passed in
    let w : c.args.at < length c.args.extents.now = (let a = p.within in let b = c.if-at-extents.false in omega (arith, a, b)) in
    let room : c.args.a % 4096 + c.args.bytes ≤ 4096 = omega arith in
    let ends : c.args.a + c.args.bytes ≤ extent_end (get_or c.args.extents.now c.args.at (record { base = 0; len = 0; first = 0 })) = omega arith in
    record {
      places = on_page c.args.extents.now c.args.a c.args.bytes c.args.at (record { base = 0; len = 0; first = 0 }) p.below w c.if-a-extent.false ends room;
      room = room;
    }
