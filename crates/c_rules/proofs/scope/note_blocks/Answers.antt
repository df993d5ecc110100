use Rattle.std.proofs.Common.{map, ap, ◌∙◌}
use Rattle.c_lang.specs.Items.{block_mentions, end_mentions, mentions_in, together}
use Rattle.c_rules.specs.Scopes.{noted}
use Rattle.c_rules.proofs.ScopeLaws.{note_step, noted_more}
use Rattle.c_rules.proofs.scope.note_blocks.Goals as goal

pub loop-block-preserved : goal.loop-block-preserved
loop-block-preserved c =
    let s = c.args.scope.now in
    let b = c.block-item.result in
    let mid = c.loop-block.kept in
    note_step s block_mentions c.args.blocks.now c.loop-block.block-index b c.args.kept.now mid c.note_end.new.kept c.loop-block-test.true c.block-item.is c.loop-block.invariant
    (c.note_end.ensures ∙ ap (λ k. noted s k (end_mentions b.end)) (c.note_stmts.ensures ∙ ap (λ ss. noted s mid (together (map mentions_in ss))) c.as_slice.ensures) ∙ noted_more s mid (together (map mentions_in b.stmts)) (end_mentions b.end))
