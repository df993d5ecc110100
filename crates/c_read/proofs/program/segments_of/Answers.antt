use Rattle.std.proofs.Common.{◌*◌, ap, arith, drop, get_or, subst, sym, take, ◌∙◌}
use Rattle.c_read.specs.Programs.{IsSegmentRow}
use Rattle.c_read.proofs.SegmentLaws.{made_more, made_table, row_stands}
use Rattle.c_read.proofs.program.segments_of.Goals as goal

pub segment_of-requires : goal.segment_of-requires
segment_of-requires c =
    let i = c.loop-index.index in
    let d = c.index-arrays-index.result in
    let row = c.row_of-row.ensures ∙ ap (λ ns. take 4 (drop (4 * i) ns)) c.numbers.ensures in
    subst (λ a. IsSegmentRow a c.row_of-row.result.now) (sym c.index-arrays-index.is) (subst (IsSegmentRow (get_or c.args.arrays.now i d)) (sym row) (row_stands c.args.arrays.now c.args.table.now i d c.requires (omega arith)))

pub loop-index-preserved : goal.loop-index-preserved
loop-index-preserved c =
    let i = c.loop-index.index in
    made_more c.args.arrays.now c.args.table.now i c.loop-index.segments c.push.new.self c.in_ok-segment.segment c.index-arrays-index.result (omega arith) c.loop-index.invariant (c.in_ok-segment.ensures.array ∙ c.index-arrays-index.is)
    (c.in_ok-segment.ensures.row ∙ c.row_of-row.ensures ∙ ap (λ ns. take 4 (drop (4 * i) ns)) c.numbers.ensures) c.in_ok-push.ensures.ok

pub returns-clause-table : goal.returns-clause-table
returns-clause-table c = made_table c.args.arrays.now c.args.table.now c.loop-index.index c.loop-index.segments c.requires c.loop-index.invariant (omega arith)
