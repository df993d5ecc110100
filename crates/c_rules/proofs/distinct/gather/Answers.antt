use Rattle.c_rules.proofs.Apart.{is_twice, is_new}
use Rattle.c_rules.proofs.distinct.gather.Goals as goal

pub returns-then-not-branch : goal.returns-then-not-branch
returns-then-not-branch g c =
    is_twice g.T.PartialEq.eq g.met.T.Eq.laws c.args.values.now c.loop-value.value-index c.value-item.result c.loop-value.set c.in_ok-insert.field-0 c.loop-value-test.true c.value-item.is c.loop-value.invariant.1 c.in_ok-insert.ensures.added
    c.if-not-branch.true

pub loop-value-preserved : goal.loop-value-preserved
loop-value-preserved g c =
    is_new g.T.PartialEq.eq g.met.T.Eq.laws c.args.values.now c.loop-value.value-index c.value-item.result c.loop-value.set c.insert.new.self c.in_ok-insert.field-0 c.loop-value-test.true c.value-item.is c.loop-value.invariant.0 c.loop-value.invariant.1
    c.in_ok-insert.ensures.added c.if-not-branch.false c.in_ok-insert.ensures.keys
