use Rattle.std.proofs.Common.{ℕ, length, sym, ap, ◌∙◌, arith, subst, refl, List, length-set}
use Rattle.std.specs.Prelude.{slice_index}
use Rattle.paged_space.specs.Stored.{IsPieceStored}
use Rattle.paged_space.proofs.WholeSpace.{standing_held}
use Rattle.paged_space.proofs.Numbers.{on_page_low}
use Rattle.paged_space.proofs.Pieces.{not_stored, piece_stored}
use Rattle.paged_space.specs.PageTable.{table}
use Rattle.paged_space.proofs.pages.store_piece_in.Goals as goal

pub bounds-writes-k : goal.bounds-writes-k
bounds-writes-k c =
    let w = on_page_low (table c.args.extents.now c.args.frames.now c.args.writes.now) c.args.a (length c.args.piece.now) c.in-Some.k c.requires.sound c.in-Some.ensures c.requires.some in
    let f = c.requires.sound.flags in
    omega (arith, w, f)

pub returns-then-not-writes-k : goal.returns-then-not-writes-k
returns-then-not-writes-k c = record { long = refl; stored = not_stored (table c.args.extents.now c.args.frames.now c.args.writes.now) c.args.pool.now c.args.a c.args.piece.now c.requires.sound c.requires.stand c.requires.ready }

pub write_page_piece-requires : goal.write_page_piece-requires
write_page_piece-requires c =
    let w = on_page_low (table c.args.extents.now c.args.frames.now c.args.writes.now) c.args.a (length c.args.piece.now) c.in-Some.k c.requires.sound c.in-Some.ensures c.requires.some in
    record { page = w; held = standing_held c.args.frames.now c.in-Some.k c.args.pool.now c.requires.stand w; within = c.in-Some.ensures.room }

pub returns-else-not-writes-k : goal.returns-else-not-writes-k
returns-else-not-writes-k c =
    let e = c.write_page_piece.ensures.frames in
    record {
      long = ap length e ∙ length-set c.args.frames.now c.in-Some.k _;
      stored = subst (λ (fs : List ℕ). IsPieceStored (table c.args.extents.now c.args.frames.now c.args.writes.now) (table c.args.extents.now fs c.args.writes.now) c.args.pool.now c.write_page_piece.new.pool c.args.a c.args.piece.now c.write_page_piece.result) (sym e)
          (piece_stored (table c.args.extents.now c.args.frames.now c.args.writes.now) c.in-Some.k (slice_index c.write_page_piece.new.frames c.in-Some.k) c.args.a c.args.piece.now c.args.pool.now c.write_page_piece.new.pool c.write_page_piece.result c.requires.sound c.requires.stand c.requires.ready c.requires.some c.in-Some.ensures c.if-not-writes-k.false c.write_page_piece.ensures.written c.write_page_piece.ensures.refused);
    }

pub returns-in-None : goal.returns-in-None
returns-in-None c = record { long = refl; stored = not_stored (table c.args.extents.now c.args.frames.now c.args.writes.now) c.args.pool.now c.args.a c.args.piece.now c.requires.sound c.requires.stand c.requires.ready }
