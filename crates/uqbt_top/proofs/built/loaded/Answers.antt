use Rattle.std.proofs.Common.{List, sym, ap, subst}
use Rattle.std.specs.Prelude.{map}
use Rattle.elf32.specs.declared.elf.Segment.{Segment}
use Rattle.load_image.specs.Mapped.{segment_part}
use Rattle.load_image.specs.declared.image.Image.{Image}
use Rattle.c_static.specs.Laws.{ArePlaced}
use Rattle.uqbt_top.proofs.RunLaws.{image_has_memory}
use Rattle.uqbt_top.proofs.built.loaded.Goals as goal

pub returns-in-Ok-make_image-clause-memory : goal.returns-in-Ok-make_image-clause-memory
returns-in-Ok-make_image-clause-memory c =
    let e = c.in-Ok-make_image.ensures in
    image_has_memory c.args.on.now c.in-Ok-make_image.image c.in-Ok.elf e.image e.ranges e.memory.parts

pub returns-in-Ok-make_image-clause-placed : goal.returns-in-Ok-make_image-clause-placed
returns-in-Ok-make_image-clause-placed c =
    let e = c.in-Ok-make_image.ensures in
    let conv = c.args.on.now.conv in
    let same = ap (λ (i : Image). i.segments) e.image in
    subst (λ (ss : List Segment). ArePlaced conv (map segment_part ss)) (sym same) (c.segments_are_placed.ensures conv c.in-Ok.elf.segments c.in-Ok.ensures.loadable e.apart)
