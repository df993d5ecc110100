use Rattle.paged_space.proofs.Shares.{still_held, still_room}
use Rattle.paged_space.proofs.sharing.share_all.Goals as goal

pub hold-requires-clause-held : goal.hold-requires-clause-held
hold-requires-clause-held c = still_held c.args.frames.now c.loop-frame.frame-index c.frame-item.result c.args.pool.now c.loop-frame.pool c.requires.stand c.loop-frame.invariant.shared c.loop-frame-test.true c.frame-item.is

pub hold-requires-clause-room : goal.hold-requires-clause-room
hold-requires-clause-room c = still_room c.args.frames.now c.loop-frame.frame-index c.frame-item.result c.args.pool.now c.loop-frame.pool c.requires.once c.requires.room c.loop-frame.invariant.shared c.loop-frame-test.true c.frame-item.is
