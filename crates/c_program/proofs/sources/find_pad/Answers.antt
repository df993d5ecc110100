use Rattle.std.proofs.Common.{ℕ, rules}
use Rattle.std.proofs.lemmas.List.Sorted.{IsPartitionPoint-from_clause, IsPartitionedBy-ltb}
use lib.Dec.{ltb}
use Rattle.points.specs.declared.graph.Pad.{Pad}
use Rattle.c_program.proofs.Places.{is_place, found-none, found-other}
use Rattle.c_program.proofs.sources.find_pad.Goals as goal

key : Pad → ℕ
key x = x.at

pub returns-in-None : goal.returns-in-None
unfolding key
returns-in-None c =
    let xs = c.args.pads.now in
    let point = IsPartitionPoint-from_clause (λ x. ltb (key x) c.args.back) _ _ c.partition_point-place.ensures.partitioned (IsPartitionedBy-ltb key xs c.args.back c.requires) (λ a r q k. search rules) in
    found-none key xs c.args.back c.partition_point-place.result (is_place key xs c.args.back c.partition_point-place.result point) c.in-None.ensures

pub returns-else-pad-back : goal.returns-else-pad-back
unfolding key
returns-else-pad-back c =
    let xs = c.args.pads.now in
    let point = IsPartitionPoint-from_clause (λ x. ltb (key x) c.args.back) _ _ c.partition_point-place.ensures.partitioned (IsPartitionedBy-ltb key xs c.args.back c.requires) (λ a r q k. search rules) in
    found-other key xs c.args.back c.partition_point-place.result (is_place key xs c.args.back c.partition_point-place.result point) c.requires c.in-Some.pad.now c.in-Some.ensures c.if-pad-back.false
