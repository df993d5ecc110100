use Rattle.std.proofs.Common.{[], ◌∷◌, arith}
use Rattle.page_pool.specs.Frames.{zeros}
use Rattle.paged_space.specs.Moves.{StandIn}
use Rattle.paged_space.proofs.Standing.{stand_taken}
use Rattle.paged_space.proofs.tests.tries_of.Goals as goal

pub tries_of_two-requires : goal.tries_of_two-requires
tries_of_two-requires c =
    let p = c.args.pool.now in
    let q = c.take.new.self in
    let r = c.take-2.new.self in
    let none : StandIn [] p = λ n. omega arith in
    let one = stand_taken c.in_ok-first.first zeros [] p q c.in_ok-first.ensures none in
    c.is_spent-spent.ensures (c.in-Some.second ∷ c.in_ok-first.first ∷ []) (stand_taken c.in-Some.second zeros (c.in_ok-first.first ∷ []) q r c.in-Some.ensures one)
