use Rattle.std.proofs.Common.{subst, sym}
use Rattle.std.specs.List.Sorted.{IsStrictlySortedBy}
use Rattle.std.proofs.lemmas.List.Filters.{dedup_is}
use Rattle.std.proofs.lemmas.List.Kept.{IsStrictlySortedBy-dedup}
use Rattle.worklist.proofs.AscendingLists.{only_dedup, whole_dedup}
use Rattle.worklist.proofs.sets.ascending.Goals as goal

pub returns-clause-ascend : goal.returns-clause-ascend
returns-clause-ascend g c =
    let is = dedup_is g.T.PartialEq.eq c.sort.new.self.items c.dedup.new.self.items c.dedup.ensures.filtered in
    subst (IsStrictlySortedBy g.T.Ord.cmp) (sym is) (IsStrictlySortedBy-dedup g.met.T.Ord.total g.met.T.Ord.matches_eq c.sort.new.self.items c.in_ok-sort.ensures.sorted)

pub returns-clause-only : goal.returns-clause-only
returns-clause-only g c =
    let is = dedup_is g.T.PartialEq.eq c.sort.new.self.items c.dedup.new.self.items c.dedup.ensures.filtered in
    only_dedup g.T.PartialEq.eq g.met.T.Eq.laws c.requires.same c.args.items.now c.in_ok-distinct.distinct.items c.sort.new.self.items c.dedup.new.self.items c.in_ok-distinct.ensures.items c.sort.ensures.permutation is

pub returns-clause-whole : goal.returns-clause-whole
returns-clause-whole g c =
    let is = dedup_is g.T.PartialEq.eq c.sort.new.self.items c.dedup.new.self.items c.dedup.ensures.filtered in
    whole_dedup g.T.PartialEq.eq g.met.T.Eq.laws c.requires.same c.args.items.now c.in_ok-distinct.distinct.items c.sort.new.self.items c.dedup.new.self.items c.in_ok-distinct.ensures.items c.sort.ensures.permutation is
