-- The segments of an executable without fault, beside areas that they share no byte with, are parts in their places.
use Rattle.std.specs.Prelude.{List, map, All}
use Rattle.rtl_core.specs.declared.conv.Conv.{Conv}
use Rattle.elf32.specs.declared.elf.Segment.{Segment}
use Rattle.elf32.specs.Reading.{AreLoadable}
use Rattle.load_image.specs.Areas.{SharesByte}
use Rattle.load_image.specs.Mapped.{segment_part}
use Rattle.c_static.specs.Laws.{ArePlaced}

abbrev pub SegmentsArePlaced : Type 0
SegmentsArePlaced = (conv : Conv) (segments : List Segment) → AreLoadable segments → All (λ s. ¬ SharesByte conv s) segments → ArePlaced conv (map segment_part segments)
