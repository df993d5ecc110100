use Rattle.std.proofs.Common.{[]}
use Rattle.ssl_core.specs.Fresh.{are_fresh}
use Rattle.ssl_core.proofs.FreshLemmas.{fresh_more, fresh_ends}
use Rattle.ssl_core.proofs.once.are_new_operands.Goals as goal

pub returns-then-not-is_unseen : goal.returns-then-not-is_unseen
returns-then-not-is_unseen c =
    fresh_ends c.args.given.now.tables.names c.args.ops.now c.loop-op.op-index c.loop-op.seen c.op-item.result c.as_slice-name.result.now c.is_unseen.result
    (are_fresh c.args.given.now.tables.names [] c.args.ops.now) c.loop-op-test.true c.op-item.is c.as_slice-name.ensures c.is_unseen.ensures c.if-not-is_unseen.true c.loop-op.invariant

pub loop-op-preserved : goal.loop-op-preserved
loop-op-preserved c =
    fresh_more c.args.given.now.tables.names c.args.ops.now c.loop-op.op-index c.loop-op.seen c.add.new.self c.op-item.result c.as_slice-name.result.now c.is_unseen.result
    (are_fresh c.args.given.now.tables.names [] c.args.ops.now) c.loop-op-test.true c.op-item.is c.as_slice-name.ensures c.is_unseen.ensures c.if-not-is_unseen.false c.in_ok-add.ensures.added c.loop-op.invariant
