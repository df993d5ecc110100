use Rattle.std.proofs.Common.{refl}
use Rattle.paged_space.proofs.Others.{each_stands}
use Rattle.paged_space.proofs.tests.stored_beside.Goals as goal

pub shared-requires : goal.shared-requires
shared-requires c = each_stands _ 0 _ c.args.pool.now refl c.requires

pub store-requires-clause-stands : goal.store-requires-clause-stands
store-requires-clause-stands c = each_stands _ 0 _ c.args.pool.now refl c.requires
