use Rattle.graph_control.specs.Ways.{AreWaysAt}
use Rattle.graph_control.proofs.Zipped.{zip-more}
use Rattle.graph_control.proofs.ways.Places.all.Goals as goal

pub loop-node-preserved : goal.loop-node-preserved
loop-node-preserved c = λ g p j.
    zip-more (AreWaysAt c.args.self.now.machine.now g) c.args.nodes.now c.loop-node.ways.items c.push.new.self.items c.loop-node.node-index c.node-item.result c.ways_at.result c.loop-node-test.true c.node-item.is
    c.in_ok-push.ensures.items (c.loop-node.invariant g p j) (c.ways_at.ensures g p j)
