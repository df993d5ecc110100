use Rattle.std.proofs.Common.{◌≡◌, List, sym, ap, ◌∙◌, subst}
use Rattle.std.specs.Prelude.{Option}
use Rattle.rtl_core.specs.declared.conv.Conv.{Conv}
use Rattle.rtl_core.specs.declared.frozen.Frozen.{Frozen}
use Rattle.elf32.specs.declared.elf.Segment.{Segment}
use Rattle.space.specs.declared.range.Range.{Range}
use Rattle.space.specs.Ranges.{memory_of}
use Rattle.load_image.specs.declared.fault.ImageFault.{ImageFault}
use Rattle.load_image.specs.Areas.{overlap_fault}
use Rattle.load_image.specs.FrozenBytes.{frozen_of, IsFrozen}
use Rattle.load_image.specs.Mapped.{IsFirstMemory, AreBuildable}
use Rattle.load_image.specs.Made.{ranges_of}
use Rattle.load_image.proofs.Overlaps.{none_overlaps, first_overlap}
use Rattle.load_image.proofs.Builds.{buildable}
use Rattle.load_image.proofs.Theorems.{first_memory, frozen_image}
use Rattle.load_image.proofs.making.make_image.Goals as goal

-- the answer on the slice is that on the list that it shows
answered : (conv : Conv) (shown segments : List Segment) (told o : Option ImageFault) → told ≡ overlap_fault conv shown → shown ≡ segments → told ≡ o → overlap_fault conv segments ≡ o
answered conv shown segments told o is same was = sym (is ∙ ap (overlap_fault conv) same) ∙ was

pub returns-in-Some-clause-first : goal.returns-in-Some-clause-first
returns-in-Some-clause-first c known =
    first_overlap c.args.conv.now c.args.elf.now.segments c.in-Some.fault
    (answered c.args.conv.now c.as_slice-segments.result.now c.args.elf.now.segments _ _ c.overlap_fault.ensures c.as_slice-segments.ensures c.in-Some.is)

pub returns-clause-none : goal.returns-clause-none
returns-clause-none c =
    answered c.args.conv.now c.as_slice-segments.result.now c.args.elf.now.segments _ _ c.overlap_fault.ensures c.as_slice-segments.ensures c.in_default.is

pub returns-clause-apart : goal.returns-clause-apart
returns-clause-apart c =
    none_overlaps c.args.conv.now c.args.elf.now.segments
    (answered c.args.conv.now c.as_slice-segments.result.now c.args.elf.now.segments _ _ c.overlap_fault.ensures c.as_slice-segments.ensures c.in_default.is)

pub returns-clause-memory : goal.returns-clause-memory
returns-clause-memory c =
    let conv = c.args.conv.now in
    let segments = c.args.elf.now.segments in
    let is : c.in_ok-ranges.ranges ≡ ranges_of conv segments = c.in_ok-ranges.ensures ∙ ap (ranges_of conv) c.as_slice-segments.ensures in
    let P : List Range → Type 0 = λ rs. IsFirstMemory segments conv (memory_of rs) in
    subst P (sym is) (first_memory conv segments c.requires.sound c.requires.loadable (returns-clause-apart c))

pub returns-clause-frozen : goal.returns-clause-frozen
returns-clause-frozen c =
    let conv = c.args.conv.now in
    let segments = c.args.elf.now.segments in
    let is : c.in_ok-ranges.ranges ≡ ranges_of conv segments = c.in_ok-ranges.ensures ∙ ap (ranges_of conv) c.as_slice-segments.ensures in
    let parts : c.in_ok-frozen.frozen ≡ frozen_of segments = c.in_ok-frozen.ensures ∙ ap frozen_of c.as_slice-segments.ensures in
    let P : List Range → Type 0 = λ rs. IsFrozen segments (memory_of rs) c.in_ok-frozen.frozen in
    let Q : Frozen → Type 0 = λ f. IsFrozen segments (memory_of (ranges_of conv segments)) f in
    subst P (sym is) (subst Q (sym parts) (frozen_image conv segments c.requires.loadable))

pub returns-clause-ranges : goal.returns-clause-ranges
returns-clause-ranges c =
    let conv = c.args.conv.now in
    let segments = c.args.elf.now.segments in
    subst AreBuildable (sym (c.in_ok-ranges.ensures ∙ ap (ranges_of conv) c.as_slice-segments.ensures))
    (buildable conv segments c.requires.sound c.requires.loadable (returns-clause-apart c))
