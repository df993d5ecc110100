use Rattle.std.proofs.Common.{◌≡◌, take, map}
use Rattle.std.specs.List.{flat_map}
use Rattle.discover.specs.Parts.{node_at, backs_at}
use Rattle.discover.specs.Seen.{AreLooks}
use Rattle.discover.proofs.nodes.nodes_of.Given as goal

abbrev pub invariant-loop-point : goal.invariant-loop-point
invariant-loop-point g l = record {
  nodes : l.into.nodes.items ≡ map (node_at (g.P.Program.code l.program)) (take l.point-index l.points);
  backs : l.into.backs.items ≡ flat_map (backs_at (g.P.Program.code l.program)) (take l.point-index l.points);
  looks : AreLooks (g.P.Program.code l.program) l.looks.entries;
}
