use Rattle.std.proofs.Common.{ℕ, [], ◌∷◌, sym, subst}
use Rattle.page_pool.specs.Frames.{Frames, HasJoined, IsHeld}
use Rattle.paged_space.specs.Moves.{StandIn}
use Rattle.paged_space.proofs.Standing.{first_held, second_held, stand_given, stand_joined}
use Rattle.paged_space.proofs.tests.tries_of_two.Goals as goal

pub share-requires : goal.share-requires
share-requires c =
    second_held c.args.second c.args.first [] c.args.pool.now c.requires

pub tries-tries-requires : goal.tries-tries-requires
tries-tries-requires c =
    let f = c.args.first in
    let n = c.args.second in
    let p = c.args.pool.now in
    let l = second_held n f [] p c.requires in
    let j = c.in-Some.ensures.shared in
    subst (λ (x : ℕ). StandIn (x ∷ n ∷ f ∷ []) c.share.new.self) (sym j.0)
    (stand_joined f (n ∷ f ∷ []) p c.share.new.self (subst (λ (x : ℕ). HasJoined p c.share.new.self x) j.0 j.1) l.0 c.requires)

pub give_back-requires : goal.give_back-requires
give_back-requires c =
    let q = c.tries-tries.new.pool in
    let y = c.tries-tries.new.again in
    let f = c.args.first in
    let a : StandIn (y ∷ f ∷ []) q = c.tries-tries.ensures in
    first_held y (f ∷ []) q a

pub give_back-requires-in-Some : goal.give_back-requires-in-Some
give_back-requires-in-Some c =
    let q = c.tries-tries.new.pool in
    let y = c.tries-tries.new.again in
    let f = c.args.first in
    let a : StandIn (y ∷ f ∷ []) q = c.tries-tries.ensures in
    first_held f [] c.give_back.new.self (stand_given y (f ∷ []) q c.give_back.new.self c.give_back.ensures.holders a)

pub give_back-requires-in-None : goal.give_back-requires-in-None
give_back-requires-in-None c =
    subst (λ (p : Frames). IsHeld p c.args.second) (sym c.in-None.ensures.shared.1) (first_held c.args.second (c.args.first ∷ []) c.args.pool.now c.requires)
