use Rattle.std.proofs.Common.{◌≡◌, take, map}
use Rattle.points.specs.declared.graph.JumpTable.{JumpTable}
use Rattle.graph_control.proofs.lookup.jumps_of.Given as goal

abbrev pub invariant-loop-table : goal.invariant-loop-table
invariant-loop-table l = l.jumps.items ≡ map (λ (x : JumpTable). x.at) (take l.table-index l.tables)
