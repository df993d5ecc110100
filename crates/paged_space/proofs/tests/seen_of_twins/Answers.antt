use Rattle.std.proofs.Common.{refl, subst, sym, [], ◌∷◌}
use Rattle.paged_space.specs.PageTable.{PageTable}
use Rattle.paged_space.specs.Together.{StandTogether}
use Rattle.paged_space.proofs.Others.{each_stands, one_stands, swap_spaces}
use Rattle.paged_space.proofs.tests.seen_of_twins.Goals as goal

pub seen_beside-seen-requires : goal.seen_beside-seen-requires
seen_beside-seen-requires c =
    subst (λ (t : PageTable). StandTogether (t ∷ c.in-Ok.twin ∷ []) c.twin.new.pool) (sym c.twin.ensures.itself)
    (swap_spaces _ _ [] c.twin.new.pool (c.in-Ok.ensures.twin.together [] (one_stands _ c.args.pool.now c.requires)))

pub give_back-requires : goal.give_back-requires
give_back-requires c = each_stands _ 1 _ c.seen_beside-seen.new.pool refl c.seen_beside-seen.ensures

pub returns-in-Ok : goal.returns-in-Ok
returns-in-Ok c = each_stands _ 0 _ c.give_back.new.pool refl (c.give_back.ensures.together (c.seen_beside-seen.new.space ∷ []) (swap_spaces _ _ [] c.seen_beside-seen.new.pool c.seen_beside-seen.ensures)).0
