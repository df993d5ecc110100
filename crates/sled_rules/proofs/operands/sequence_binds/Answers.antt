use Rattle.sled_rules.specs.Operands.{item_binds}
use Rattle.sled_rules.proofs.RestLaws.{flat_step}
use Rattle.sled_rules.proofs.operands.sequence_binds.Goals as goal

pub loop-item-preserved : goal.loop-item-preserved
loop-item-preserved c =
    flat_step (item_binds c.args.names.now c.args.ops.now) c.args.items.now c.loop-item.item-index c.item-item.result c.loop-item.binds.items c.push_item.new.binds.items
    c.loop-item-test.true c.item-item.is c.loop-item.invariant c.in_ok-push_item.ensures
