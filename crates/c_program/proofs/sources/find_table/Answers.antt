use Rattle.std.proofs.Common.{ℕ, rules}
use Rattle.std.proofs.lemmas.List.Sorted.{IsPartitionPoint-from_clause, IsPartitionedBy-ltb}
use lib.Dec.{ltb}
use Rattle.points.specs.declared.graph.JumpTable.{JumpTable}
use Rattle.c_program.proofs.Places.{is_place, found-none, found-other}
use Rattle.c_program.proofs.sources.find_table.Goals as goal

key : JumpTable → ℕ
key x = x.at

pub returns-in-None : goal.returns-in-None
unfolding key
returns-in-None c =
    let xs = c.args.tables.now in
    let point = IsPartitionPoint-from_clause (λ x. ltb (key x) c.args.a) _ _ c.partition_point-place.ensures.partitioned (IsPartitionedBy-ltb key xs c.args.a c.requires) (λ a r q k. search rules) in
    found-none key xs c.args.a c.partition_point-place.result (is_place key xs c.args.a c.partition_point-place.result point) c.in-None.ensures

pub returns-else-table-a : goal.returns-else-table-a
unfolding key
returns-else-table-a c =
    let xs = c.args.tables.now in
    let point = IsPartitionPoint-from_clause (λ x. ltb (key x) c.args.a) _ _ c.partition_point-place.ensures.partitioned (IsPartitionedBy-ltb key xs c.args.a c.requires) (λ a r q k. search rules) in
    found-other key xs c.args.a c.partition_point-place.result (is_place key xs c.args.a c.partition_point-place.result point) c.requires c.in-Some.table.now c.in-Some.ensures c.if-table-a.false
