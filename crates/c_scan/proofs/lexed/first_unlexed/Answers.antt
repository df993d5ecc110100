use Rattle.c_scan.proofs.Steps.{onward, onward_none, step_smaller}
use Rattle.c_scan.proofs.lexed.first_unlexed.Goals as goal

pub more-init : goal.more-init
more-init c = onward_none c.args.text.now

pub more-preserved : goal.more-preserved
more-preserved c = onward c.args.text.now c.more.at c.in-Ok.end _ c.more.invariant c.in-Ok.ensures

pub more-smaller : goal.more-smaller
more-smaller c = step_smaller c.args.text.now c.more.at c.in-Ok.end _ c.in-Ok.ensures
