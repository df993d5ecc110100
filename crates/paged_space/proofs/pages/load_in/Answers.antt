use Rattle.std.proofs.Common.{rules, ℕ, ◌%◌, sym, ap, ◌∙◌, subst}
use Rattle.std.proofs.lemmas.Grind.{get_or_default_zero}
use Rattle.page_pool.specs.Frames.{IsHeld, frame_byte}
use Rattle.paged_space.specs.PageTable.{table, PageTable}
use Rattle.std.specs.Prelude.{Some}
use Rattle.rtl_core.specs.Contents.{byte_of}
use Rattle.paged_space.proofs.WholeSpace.{place_low as at_place, found_at, nowhere, standing_held}
use Rattle.paged_space.proofs.pages.load_in.Goals as goal

pub offset_bounds-frames-k : goal.offset_bounds-frames-k
offset_bounds-frames-k c = let w = at_place (table c.args.extents.now c.args.frames.now c.args.writes.now) c.args.a c.in-Some.k c.requires.sound (sym c.in-Some.ensures) in search rules

pub bounds-frames-k : goal.bounds-frames-k
bounds-frames-k c = at_place (table c.args.extents.now c.args.frames.now c.args.writes.now) c.args.a c.in-Some.k c.requires.sound (sym c.in-Some.ensures)

pub read-requires-clause-held : goal.read-requires-clause-held
read-requires-clause-held c =
    subst (λ (f : ℕ). IsHeld c.args.pool.now f) (sym (c.index-frames-k.is ∙ get_or_default_zero c.args.frames.now c.in-Some.k c.index-frames-k.result (at_place (table c.args.extents.now c.args.frames.now c.args.writes.now) c.args.a c.in-Some.k c.requires.sound (sym c.in-Some.ensures))))
    (standing_held c.args.frames.now c.in-Some.k c.args.pool.now c.requires.stand (at_place (table c.args.extents.now c.args.frames.now c.args.writes.now) c.args.a c.in-Some.k c.requires.sound (sym c.in-Some.ensures)))

pub returns-in-Some : goal.returns-in-Some
returns-in-Some c =
    let t : PageTable = record { extents = c.args.extents.now; frames = c.args.frames.now; writes = c.args.writes.now } in
    let w = at_place t c.args.a c.in-Some.k c.requires.sound (sym c.in-Some.ensures) in
    ap Some (c.read.ensures ∙ ap (λ f. frame_byte c.args.pool.now f (c.args.a % 4096)) (c.index-frames-k.is ∙ get_or_default_zero c.args.frames.now c.in-Some.k c.index-frames-k.result w))
    ∙ sym (ap byte_of (found_at t c.args.pool.now c.args.a c.in-Some.k (sym c.in-Some.ensures) w))

pub returns-in-None : goal.returns-in-None
returns-in-None c = sym (ap byte_of (nowhere (table c.args.extents.now c.args.frames.now c.args.writes.now) c.args.pool.now c.args.a (sym c.in-None.ensures)))
