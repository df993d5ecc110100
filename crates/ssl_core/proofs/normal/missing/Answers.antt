use Rattle.ssl_rules.specs.Faults.{missing_from}
use Rattle.ssl_core.specs.State.{shown}
use Rattle.ssl_core.proofs.StateLemmas.{missing_more, missing_here}
use Rattle.ssl_core.proofs.normal.missing.Goals as goal

pub returns-then-not-has_template : goal.returns-then-not-has_template
returns-then-not-has_template c =
    missing_here (shown c.args.given.now) c.args.constructors.now c.loop-k.k c.has_template.result (missing_from (shown c.args.given.now) 0 c.args.constructors.now) c.loop-k-test.true
    c.has_template.ensures c.if-not-has_template.true c.loop-k.invariant

pub loop-k-preserved : goal.loop-k-preserved
loop-k-preserved c =
    missing_more (shown c.args.given.now) c.args.constructors.now c.loop-k.k c.has_template.result (missing_from (shown c.args.given.now) 0 c.args.constructors.now) c.loop-k-test.true
    c.has_template.ensures c.if-not-has_template.false c.loop-k.invariant
