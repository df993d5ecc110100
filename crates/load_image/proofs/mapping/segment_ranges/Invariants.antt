use Rattle.std.proofs.Common.{◌≡◌, map, take}
use Rattle.load_image.specs.Areas.{range_of}
use Rattle.load_image.proofs.mapping.segment_ranges.Given as goal

abbrev pub invariant-loop-segment : goal.invariant-loop-segment
invariant-loop-segment l = l.ranges ≡ map range_of (take l.segment-index l.segments)
