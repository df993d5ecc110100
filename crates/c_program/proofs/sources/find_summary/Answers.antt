use Rattle.std.proofs.Common.{ℕ, rules}
use Rattle.std.proofs.lemmas.List.Sorted.{IsPartitionPoint-from_clause, IsPartitionedBy-ltb}
use lib.Dec.{ltb}
use Rattle.points.specs.declared.graph.Summary.{Summary}
use Rattle.c_program.proofs.Places.{is_place, found-none, found-other}
use Rattle.c_program.proofs.sources.find_summary.Goals as goal

key : Summary → ℕ
key x = x.entry

pub returns-in-None : goal.returns-in-None
unfolding key
returns-in-None c =
    let xs = c.args.sums.now in
    let point = IsPartitionPoint-from_clause (λ x. ltb (key x) c.args.entry) _ _ c.partition_point-place.ensures.partitioned (IsPartitionedBy-ltb key xs c.args.entry c.requires) (λ a r q k. search rules) in
    found-none key xs c.args.entry c.partition_point-place.result (is_place key xs c.args.entry c.partition_point-place.result point) c.in-None.ensures

pub returns-else-sum-entry : goal.returns-else-sum-entry
unfolding key
returns-else-sum-entry c =
    let xs = c.args.sums.now in
    let point = IsPartitionPoint-from_clause (λ x. ltb (key x) c.args.entry) _ _ c.partition_point-place.ensures.partitioned (IsPartitionedBy-ltb key xs c.args.entry c.requires) (λ a r q k. search rules) in
    found-other key xs c.args.entry c.partition_point-place.result (is_place key xs c.args.entry c.partition_point-place.result point) c.requires c.in-Some.sum.now c.in-Some.ensures c.if-sum-entry.false
