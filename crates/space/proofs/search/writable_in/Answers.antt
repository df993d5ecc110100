use Rattle.space.proofs.Lookups.{lies_at}
use Rattle.space.proofs.Rewrites.{answer_at_place}
use Rattle.space.proofs.search.writable_in.Goals as goal

pub returns-in-Some : goal.returns-in-Some
returns-in-Some c = answer_at_place _ _ _ _ _ c.requires c.in-Some.ensures.within c.index-ranges-at.is (lies_at _ _ _ _ c.in-Some.ensures c.index-ranges-at.is)
