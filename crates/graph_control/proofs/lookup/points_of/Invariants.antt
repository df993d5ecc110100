use Rattle.std.proofs.Common.{◌≡◌, take, map}
use Rattle.points.specs.declared.graph.Node.{Node}
use Rattle.graph_control.proofs.lookup.points_of.Given as goal

abbrev pub invariant-loop-node : goal.invariant-loop-node
invariant-loop-node l = l.points.items ≡ map (λ (x : Node). x.point) (take l.node-index l.nodes)
