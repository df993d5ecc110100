use Rattle.std.proofs.Common.{[], ap, ◌∙◌}
use Rattle.sled_rules.specs.Meanings.{named}
use Rattle.sled_rules.specs.Operands.{kind_of}
use Rattle.sled_rules.proofs.RestLaws.{filter_step}
use Rattle.sled_rules.proofs.operands.kinds_of.Goals as goal

pub loop-op-preserved : goal.loop-op-preserved
loop-op-preserved c =
    filter_step (λ op. kind_of (named c.args.names.now op)) c.args.ops.now c.loop-op.op-index c.op-item.result [] c.loop-op.kinds c.push_kind.new.kinds c.kind_of.result
    c.loop-op-test.true c.op-item.is c.loop-op.invariant (c.kind_of.ensures ∙ ap (λ n. kind_of (named c.args.names.now n)) c.as_slice.ensures) c.in_ok-push_kind.ensures
