use Rattle.std.proofs.Common.{arith, sym, ◌∙◌}
use Rattle.c_read.proofs.Reading.{ends, goes_on, near, no_parts, none_follows, none_reads, not_over, number_fits, over_is, parts_are}
use Rattle.c_read.proofs.PieceExact.{piece_consumes}
use Rattle.c_read.proofs.texts.read_parts.Goals as goal

pub returns-in-Err-Malformed : goal.returns-in-Err-Malformed
returns-in-Err-Malformed c =
    none_reads c.args.cursor.now c.more.cursor c.more.stage c.more.draft c.more.index c.more.invariant (not_over c.more.stage c.is_over.result c.is_over.ensures c.more-test.true) (rw c.in-Err-Malformed.field-0-is at c.in-Err-Malformed.ensures)

pub next-requires : goal.next-requires
next-requires c = near c.args.cursor.now c.more.cursor c.more.stage c.more.draft c.more.index c.more.invariant c.requires

pub returns-in-None : goal.returns-in-None
returns-in-None c =
    none_follows c.args.cursor.now c.more.cursor c.read_piece.new.cursor c.more.stage c.more.draft c.in-Ok.piece c.more.index c.more.invariant (not_over c.more.stage c.is_over.result c.is_over.ensures c.more-test.true) c.in-Ok.ensures c.in-None.ensures

pub overflow_add-index : goal.overflow_add-index
overflow_add-index c = omega (arith, number_fits c.args.cursor.now c.more.cursor c.more.stage c.more.draft c.more.index c.more.invariant c.requires)

pub more-smaller : goal.more-smaller
more-smaller c = piece_consumes.consumes c.more.cursor c.in-Ok.piece c.read_piece.new.cursor c.in-Ok.ensures

pub more-preserved : goal.more-preserved
more-preserved c =
    goes_on c.args.cursor.now c.more.cursor c.read_piece.new.cursor c.more.stage c.in-Some.behind c.more.draft c.add.new.draft c.in-Ok.piece c.more.index c.more.invariant c.in-Ok.ensures (sym c.in-Some.ensures) c.in_ok-add.ensures

pub returns-in-Some-parts_of : goal.returns-in-Some-parts_of
returns-in-Some-parts_of c =
    parts_are c.args.cursor.now c.more.draft c.in-Some-parts_of.parts
    (ends c.args.cursor.now c.more.cursor c.more.stage c.more.draft c.more.index c.more.invariant (over_is c.more.stage c.is_over.result c.is_over.ensures c.more-test.false) (sym c.at_end.ensures ∙ c.if-not-at_end.false))
    c.in-Some-parts_of.ensures

pub returns-in-None-parts_of : goal.returns-in-None-parts_of
returns-in-None-parts_of c =
    absurd (no_parts c.args.cursor.now c.more.draft
    (ends c.args.cursor.now c.more.cursor c.more.stage c.more.draft c.more.index c.more.invariant (over_is c.more.stage c.is_over.result c.is_over.ensures c.more-test.false) (sym c.at_end.ensures ∙ c.if-not-at_end.false))
    c.in-None-parts_of.ensures)
