use Rattle.std.proofs.Common.{leb, leb-true, leb-false, arith, rules}
use Rattle.std.proofs.lemmas.List.Sorted.{IsPartitionPoint-from_clause, IsPartitionedBy-leb}
use Rattle.space.specs.Ranges.{end_of}
use Rattle.space.proofs.Rising.{ends_rise}
use Rattle.space.proofs.search.passed.Goals as goal

pub returns : goal.returns
returns c =
    let parted = IsPartitionedBy-leb end_of c.args.ranges.now c.args.a (ends_rise 0 c.args.ranges.now c.requires) in
    let point = IsPartitionPoint-from_clause (λ r. leb (end_of r) c.args.a) _ _ c.partition_point.ensures.partitioned parted (λ a r q k. search rules) in
    record {
      within = c.partition_point.ensures.bound;
      below = λ k d h. leb-true _ _ (point.0 k d (omega arith) h);
      above = λ k d l h. leb-false _ _ (point.1 k d l h);
    }
