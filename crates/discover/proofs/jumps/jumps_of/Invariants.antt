use Rattle.std.proofs.Common.{◌≡◌, take}
use Rattle.std.specs.List.{flat_map}
use Rattle.discover.specs.Parts.{jump_in}
use Rattle.discover.proofs.jumps.jumps_of.Given as goal

abbrev pub invariant-loop-node : goal.invariant-loop-node
invariant-loop-node l = l.jumps.items ≡ flat_map jump_in (take l.node-index l.nodes)
