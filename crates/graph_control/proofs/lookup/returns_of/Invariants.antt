use Rattle.std.proofs.Common.{◌≡◌, take, map}
use Rattle.points.specs.declared.graph.Pad.{Pad}
use Rattle.graph_control.proofs.lookup.returns_of.Given as goal

abbrev pub invariant-loop-pad : goal.invariant-loop-pad
invariant-loop-pad l = l.returns.items ≡ map (λ (x : Pad). x.at) (take l.pad-index l.pads)
