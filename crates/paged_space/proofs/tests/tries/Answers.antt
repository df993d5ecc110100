use Rattle.std.proofs.Common.{[], ◌∷◌}
use Rattle.paged_space.specs.Moves.{StandIn}
use Rattle.paged_space.proofs.Standing.{first_held, second_held, stand_given, stand_rest, stand_swap}
use Rattle.paged_space.proofs.tests.tries.Goals as goal

pub marked-first_try-requires : goal.marked-first_try-requires
marked-first_try-requires c =
    first_held c.args.again.now (c.args.spared ∷ c.args.frame.now ∷ []) c.args.pool.now c.requires

pub read-kept-requires-clause-held : goal.read-kept-requires-clause-held
read-kept-requires-clause-held c =
    let s = c.args.spared in
    let f = c.args.frame.now in
    let p = c.marked-first_try.new.pool in
    let x = c.marked-first_try.new.frame in
    let a : StandIn (x ∷ s ∷ f ∷ []) p = c.marked-first_try.ensures (s ∷ f ∷ []) c.requires in
    second_held s f [] p (stand_rest x (s ∷ f ∷ []) p a)

pub give_back-requires : goal.give_back-requires
give_back-requires c =
    let s = c.args.spared in
    let f = c.args.frame.now in
    let p = c.marked-first_try.new.pool in
    let x = c.marked-first_try.new.frame in
    let a : StandIn (x ∷ s ∷ f ∷ []) p = c.marked-first_try.ensures (s ∷ f ∷ []) c.requires in
    second_held x s (f ∷ []) p a

pub marked-second_try-requires : goal.marked-second_try-requires
marked-second_try-requires c =
    let s = c.args.spared in
    let f = c.args.frame.now in
    let p = c.marked-first_try.new.pool in
    let x = c.marked-first_try.new.frame in
    let a : StandIn (x ∷ s ∷ f ∷ []) p = c.marked-first_try.ensures (s ∷ f ∷ []) c.requires in
    let q = c.give_back.new.self in
    let b : StandIn (x ∷ f ∷ []) q = stand_given s (x ∷ f ∷ []) p q c.give_back.ensures.holders (stand_swap x s (f ∷ []) p a) in
    first_held x (f ∷ []) q b

pub read-requires-clause-held : goal.read-requires-clause-held
read-requires-clause-held c =
    let s = c.args.spared in
    let f = c.args.frame.now in
    let p = c.marked-first_try.new.pool in
    let x = c.marked-first_try.new.frame in
    let a : StandIn (x ∷ s ∷ f ∷ []) p = c.marked-first_try.ensures (s ∷ f ∷ []) c.requires in
    let q = c.give_back.new.self in
    let b : StandIn (x ∷ f ∷ []) q = stand_given s (x ∷ f ∷ []) p q c.give_back.ensures.holders (stand_swap x s (f ∷ []) p a) in
    let r = c.marked-second_try.new.pool in
    let y = c.marked-second_try.new.frame in
    let d : StandIn (y ∷ f ∷ []) r = c.marked-second_try.ensures (f ∷ []) b in
    second_held y f [] r d

pub read-requires-2-clause-held : goal.read-requires-2-clause-held
read-requires-2-clause-held c =
    let s = c.args.spared in
    let f = c.args.frame.now in
    let p = c.marked-first_try.new.pool in
    let x = c.marked-first_try.new.frame in
    let a : StandIn (x ∷ s ∷ f ∷ []) p = c.marked-first_try.ensures (s ∷ f ∷ []) c.requires in
    let q = c.give_back.new.self in
    let b : StandIn (x ∷ f ∷ []) q = stand_given s (x ∷ f ∷ []) p q c.give_back.ensures.holders (stand_swap x s (f ∷ []) p a) in
    let r = c.marked-second_try.new.pool in
    let y = c.marked-second_try.new.frame in
    let d : StandIn (y ∷ f ∷ []) r = c.marked-second_try.ensures (f ∷ []) b in
    first_held y (f ∷ []) r d

pub returns : goal.returns
returns c =
    let s = c.args.spared in
    let f = c.args.frame.now in
    let p = c.marked-first_try.new.pool in
    let x = c.marked-first_try.new.frame in
    let a : StandIn (x ∷ s ∷ f ∷ []) p = c.marked-first_try.ensures (s ∷ f ∷ []) c.requires in
    let q = c.give_back.new.self in
    let b : StandIn (x ∷ f ∷ []) q = stand_given s (x ∷ f ∷ []) p q c.give_back.ensures.holders (stand_swap x s (f ∷ []) p a) in
    let r = c.marked-second_try.new.pool in
    let y = c.marked-second_try.new.frame in
    let d : StandIn (y ∷ f ∷ []) r = c.marked-second_try.ensures (f ∷ []) b in
    d
