-- The image that an executable and conventions make, where no segment is in the way of an area.
use Rattle.std.specs.Prelude.{List, [], ◌∷◌, ◌++◌, map}
use Rattle.rtl_core.specs.declared.conv.Conv.{Conv}
use Rattle.elf32.specs.declared.elf.Elf.{Elf}
use Rattle.elf32.specs.declared.elf.Segment.{Segment}
use Rattle.space.specs.declared.range.Range.{Range}
use Rattle.load_image.specs.declared.image.Image.{Image}
use Rattle.load_image.specs.Areas.{range_of, heap, stack}
use Rattle.load_image.specs.FrozenBytes.{frozen_of}

-- the segments in their order, then the heap, then the stack
abbrev pub ranges_of : Conv → List Segment → List Range
ranges_of conv segments = map range_of segments ++ heap conv ∷ stack conv ∷ []

-- the image
abbrev pub image_of : Elf → Conv → Image
image_of elf conv = record {
  entry = elf.entry;
  symbols = elf.symbols;
  ranges = ranges_of conv elf.segments;
  frozen = frozen_of elf.segments;
  segments = elf.segments;
}
