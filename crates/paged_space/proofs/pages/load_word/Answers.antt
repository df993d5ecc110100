use Rattle.std.proofs.Common.{rules, ℕ, ◌%◌, drop, sym, ap, ◌∙◌, subst}
use Rattle.std.specs.Prelude.{Ok}
use Rattle.std.proofs.lemmas.Grind.{get_or_default_zero}
use Rattle.page_pool.specs.Frames.{IsHeld, frame_bytes}
use Rattle.paged_space.proofs.WholeSpace.{standing_held}
use Rattle.paged_space.proofs.Numbers.{size_some, on_page_low, page_loads}
use Rattle.paged_space.specs.PageTable.{table}
use Rattle.paged_space.proofs.pages.load_word.Goals as goal

pub offset_bounds-frames-k : goal.offset_bounds-frames-k
offset_bounds-frames-k c = let w = on_page_low (table c.args.extents.now c.args.frames.now c.args.writes.now) c.args.a c.args.bytes c.in-Some.k c.requires.sound c.in-Some.ensures (size_some c.args.bytes c.requires.size) in search rules

pub bounds-frames-k : goal.bounds-frames-k
bounds-frames-k c = on_page_low (table c.args.extents.now c.args.frames.now c.args.writes.now) c.args.a c.args.bytes c.in-Some.k c.requires.sound c.in-Some.ensures (size_some c.args.bytes c.requires.size)

pub page-page-requires : goal.page-page-requires
page-page-requires c =
    let w = on_page_low (table c.args.extents.now c.args.frames.now c.args.writes.now) c.args.a c.args.bytes c.in-Some.k c.requires.sound c.in-Some.ensures (size_some c.args.bytes c.requires.size) in
    subst (λ (f : ℕ). IsHeld c.args.pool.now f) (sym (c.index-frames-k.is ∙ get_or_default_zero c.args.frames.now c.in-Some.k c.index-frames-k.result w)) (standing_held c.args.frames.now c.in-Some.k c.args.pool.now c.requires.stand w)

pub returns-in-Some : goal.returns-in-Some
returns-in-Some c =
    let w = on_page_low (table c.args.extents.now c.args.frames.now c.args.writes.now) c.args.a c.args.bytes c.in-Some.k c.requires.sound c.in-Some.ensures (size_some c.args.bytes c.requires.size) in
    let f = c.split_at.ensures.back ∙ ap (drop (c.args.a % 4096)) (c.page-page.ensures.bytes ∙ ap (frame_bytes c.args.pool.now) (c.index-frames-k.is ∙ get_or_default_zero c.args.frames.now c.in-Some.k c.index-frames-k.result w)) in
    page_loads (table c.args.extents.now c.args.frames.now c.args.writes.now) c.args.pool.now c.args.order c.args.a c.args.bytes c.in-Some.k c.split_at.result.1.now c.requires.sound c.in-Some.ensures (size_some c.args.bytes c.requires.size) c.number_in.ensures.bytes f ∙ sym (ap Ok c.number_in.ensures.number)
