use Rattle.sled_rules.proofs.TextSteps.{behind_more}
use Rattle.sled_rules.proofs.normal.normal_form.Goals as goal

pub loop-line-preserved : goal.loop-line-preserved
loop-line-preserved c =
    behind_more c.args.lines.now c.loop-line.line-index c.line-item.result c.loop-line.known c.take_line.new.known c.loop-line-test.true c.line-item.is
    c.loop-line.invariant c.in_ok-take_line.ensures.taken c.in_ok-take_line.ensures.gives
