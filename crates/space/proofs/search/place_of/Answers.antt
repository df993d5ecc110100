use Rattle.space.proofs.Lookups.{unmapped_behind, unmapped_between}
use Rattle.std.proofs.Common.{◌<◌, length, arith}
use Rattle.space.proofs.search.place_of.Goals as goal

pub returns-then-at-ranges : goal.returns-then-at-ranges
returns-then-at-ranges c = unmapped_behind _ _ _ c.requires c.passed-at.ensures c.if-at-ranges.true

pub returns-else-range-a : goal.returns-else-range-a
returns-else-range-a c =
    let p = c.passed-at.ensures in
    let w : c.passed-at.result < length c.args.ranges.now = omega arith in
    unmapped_between _ _ c.index-ranges-at.result _ _ c.requires p w c.index-ranges-at.is c.if-range-a.false
