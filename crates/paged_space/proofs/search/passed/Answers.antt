use Rattle.std.proofs.Common.{leb, leb-true, leb-false, arith, rules}
use Rattle.std.proofs.lemmas.List.Sorted.{IsPartitionPoint-from_clause, IsPartitionedBy-leb}
use Rattle.paged_space.specs.PageTable.{extent_end}
use Rattle.paged_space.proofs.Places.{ends_rise, laid_passed}
use Rattle.paged_space.proofs.search.passed.Goals as goal

pub returns : goal.returns
returns c =
    let parted = IsPartitionedBy-leb extent_end c.args.extents.now c.args.a (ends_rise 0 0 c.args.pages c.args.extents.now c.requires) in
    let point = IsPartitionPoint-from_clause (λ r. leb (extent_end r) c.args.a) _ _ c.partition_point-at.ensures.partitioned parted (λ a r q k. search rules) in
    record {
      within = c.partition_point-at.ensures.bound;
      below = λ k d h. leb-true _ _ (point.0 k d (omega arith) h);
      above = λ d h. leb-false _ _ (point.1 _ d (omega arith) h);
    }

pub returns-then-holds_at : goal.returns-then-holds_at
returns-then-holds_at c = laid_passed c.args.pages c.args.extents.now c.args.a _ c.requires (c.holds_at.ensures c.if-holds_at.true).0 (c.holds_at.ensures c.if-holds_at.true).1
