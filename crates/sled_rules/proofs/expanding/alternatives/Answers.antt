use Rattle.std.proofs.Common.{◌++◌, ap, ◌∙◌}
use Rattle.sled_rules.specs.Alternatives.{sequence_choices}
use Rattle.sled_rules.proofs.RestLaws.{flat_step}
use Rattle.sled_rules.proofs.expanding.alternatives.Goals as goal

pub loop-items-preserved : goal.loop-items-preserved
loop-items-preserved c =
    flat_step (sequence_choices c.args.names.now c.args.ops.now) c.as_slice-items-items.result.now c.loop-items.items-index c.items-item.result c.loop-items.all
    c.append.new.self c.loop-items-test.true c.items-item.is c.loop-items.invariant
    (c.in_ok-append.ensures
    ∙ ap (λ more. c.loop-items.all ++ more) (c.in_ok-more.ensures ∙ ap (sequence_choices c.args.names.now c.args.ops.now) c.as_slice.ensures))
