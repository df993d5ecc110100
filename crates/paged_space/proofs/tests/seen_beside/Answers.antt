use Rattle.std.proofs.Common.{refl}
use Rattle.paged_space.proofs.Others.{each_stands}
use Rattle.paged_space.proofs.tests.seen_beside.Goals as goal

pub counted-before-requires : goal.counted-before-requires
counted-before-requires c = each_stands _ 0 _ c.args.pool.now refl c.requires

pub counted-requires : goal.counted-requires
counted-requires c = each_stands _ 0 _ c.stored_beside-answer.new.pool refl c.stored_beside-answer.ensures

pub load-requires-clause-stands : goal.load-requires-clause-stands
load-requires-clause-stands c = each_stands _ 0 _ c.stored_beside-answer.new.pool refl c.stored_beside-answer.ensures

pub load-requires-2-clause-stands : goal.load-requires-2-clause-stands
load-requires-2-clause-stands c = each_stands _ 1 _ c.stored_beside-answer.new.pool refl c.stored_beside-answer.ensures
