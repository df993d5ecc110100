use Rattle.std.proofs.Common.{◌≡◌, map, filter, take}
use Rattle.load_image.specs.FrozenBytes.{part_of, is_fixed}
use Rattle.load_image.proofs.freezing.frozen_of.Given as goal

abbrev pub invariant-loop-segment : goal.invariant-loop-segment
invariant-loop-segment l = l.parts ≡ map part_of (filter is_fixed (take l.segment-index l.segments))
