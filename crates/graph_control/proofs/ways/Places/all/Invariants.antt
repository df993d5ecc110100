use Rattle.std.proofs.Common.{◌≡◌, take}
use Rattle.points.specs.declared.graph.Graph.{Graph}
use Rattle.points.specs.Graphs.{points_of}
use Rattle.graph_control.specs.Ways.{AreWays, jumps_in}
use Rattle.graph_control.proofs.ways.Places.all.Given as goal

-- the ways of the nodes so far
abbrev pub invariant-loop-node : goal.invariant-loop-node
invariant-loop-node l = (g : Graph) → l.self.points.now ≡ points_of g.nodes → l.self.jumps.now ≡ jumps_in g → AreWays l.self.machine.now g (take l.node-index l.nodes) l.ways.items
