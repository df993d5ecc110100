use Rattle.std.proofs.Common.{◌≡◌, map, take}
use Rattle.std.specs.Prelude.{All}
use Rattle.c_lang.specs.Spellable.{SegmentFits}
use Rattle.c_control.specs.Programs.{segment_of}
use Rattle.load_image.specs.Mapped.{segment_part}
use Rattle.uqbt_top.proofs.built.segments_of.Given as goal

-- the segments so far, whose numbers fit
abbrev pub invariant-loop-segment : goal.invariant-loop-segment
invariant-loop-segment l = record {
  same : l.all ≡ map segment_of (map segment_part (take l.segment-index l.segments));
  fit : All SegmentFits l.all;
}
