use Rattle.std.proofs.Common.{◌<◌, sym, ◌∙◌, length, arith}
use Rattle.space.proofs.Meetings.{none_meet, next_meets}
use Rattle.space.proofs.placing.meets.Goals as goal

pub returns-then-at-kept : goal.returns-then-at-kept
returns-then-at-kept c = sym (none_meet c.args.kept.now c.args.range.now c.args.at c.requires.ordered c.requires.passed c.if-at-kept.true)

pub returns : goal.returns
returns c =
    let p = c.requires.passed in
    let w : c.args.at < length c.args.kept.now = omega arith in
    c.shares.ensures.test ∙ next_meets c.args.kept.now c.args.range.now c.index-kept-at.result _ c.args.at c.requires.ordered p w c.index-kept-at.is
