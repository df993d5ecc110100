use Rattle.std.proofs.Common.{◌++◌, map, ap, ◌∙◌}
use Rattle.sled_rules.proofs.RestLaws.{flat_step}
use Rattle.sled_rules.proofs.expanding.choices_behind.Goals as goal

pub loop-left-preserved : goal.loop-left-preserved
loop-left-preserved c =
    flat_step (λ x. map (λ y. x ++ y) c.args.ys.now) c.args.xs.now c.loop-left.left-index c.left-item.result c.loop-left.all c.push_behind.new.out c.loop-left-test.true c.left-item.is c.loop-left.invariant
    (c.in_ok-push_behind.ensures ∙ ap (λ x. c.loop-left.all ++ map (λ y. x ++ y) c.args.ys.now) c.as_slice.ensures)
