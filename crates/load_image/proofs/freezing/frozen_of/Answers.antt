use Rattle.load_image.proofs.FrozenLookups.{parts_more}
use Rattle.load_image.proofs.freezing.frozen_of.Goals as goal

pub loop-segment-preserved : goal.loop-segment-preserved
loop-segment-preserved c =
    parts_more c.args.segments.now c.loop-segment.segment-index c.segment-item.result c.segment-item.result c.loop-segment.parts c.freeze.new.parts c.loop-segment.invariant c.in_ok-freeze.ensures c.loop-segment-test.true c.segment-item.is
