use Rattle.paged_space.specs.FollowsLaws.{follows_next}
use Rattle.paged_space.proofs.Others.{others_stay}
use Rattle.paged_space.proofs.space.Space.store.Goals as goal

pub returns-then-store_piece-clause-others : goal.returns-then-store_piece-clause-others
returns-then-store_piece-clause-others c = others_stay _ _ _ _ c.store_piece.ensures.follows

pub returns-clause-others : goal.returns-clause-others
returns-clause-others c = others_stay _ _ _ _ (follows_next _ _ _ _ _ _ c.store_piece.ensures.follows c.store_bytes.ensures.follows)
