use Rattle.paged_space.proofs.Shares.{held_last}
use Rattle.paged_space.proofs.sharing.give_frames.Goals as goal

pub give_back-requires : goal.give_back-requires
give_back-requires c = held_last c.loop-frame.frames.items c.pop.new.self.items c.in-Some.frame c.loop-frame.pool c.loop-frame.invariant.stand c.in-Some.ensures.items
