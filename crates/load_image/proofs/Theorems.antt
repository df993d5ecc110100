-- What the ranges and the frozen parts of an image are at each address.
use Rattle.std.proofs.Common.{◌≡◌, ℕ, ◌+◌, ◌-◌, ◌^◌, ◌<◌, ◌≤◌, true, false, cond, List, [], ◌∷◌, length, get_or, filter, All, sum_by, refl, sym, ap, ◌∙◌, inl, inr, arith}
use Rattle.std.specs.Prelude.{◌⊎◌, Some, None, slice_index}
use Rattle.std.proofs.lemmas.Bool.{cases_Bool}
use Rattle.std.proofs.lemmas.List.Elements.{All-map, All-filter}
use Rattle.std.proofs.lemmas.List.Sums.{get_or-le-sum_by}
use Rattle.rtl_core.specs.declared.conv.Conv.{Conv}
use Rattle.rtl_core.specs.declared.frozen.FrozenPart.{FrozenPart}
use Rattle.rtl_core.specs.Code.{frozen_byte, byte_in, rest_in}
use Rattle.rtl_core.specs.FirstMemory.{parts_memory}
use Rattle.rtl_core.specs.SoundConv.{IsSoundConv}
use Rattle.elf32.specs.declared.elf.Segment.{Segment}
use Rattle.elf32.specs.Reading.{IsIn, AreLoadable}
use Rattle.space.specs.Ranges.{holds, memory_of}
use Rattle.load_image.specs.Areas.{heap, stack, IsInHeap, IsInStack, SharesByte}
use Rattle.load_image.specs.FrozenBytes.{part_of, is_fixed, frozen_of, fixed_byte, whole_bytes, IsFrozen}
use Rattle.load_image.specs.Mapped.{held_by, IsFirstMemory}
use Rattle.load_image.specs.Made.{ranges_of}
use Rattle.load_image.proofs.Lookups.{Lies, where_lies, held_lies, lies_held, memory_past, memory_inside, memory_heap, memory_stack, memory_outside, parts_same}
use Rattle.load_image.proofs.FrozenLookups.{whole_length, found_none, found_inside, byte_found, code_found, byte_fixed, rest_fixed}

-- segments of which none shares a byte with an area
abbrev AreFree : Conv → List Segment → Type 0
AreFree conv segments = All (λ s. ¬ SharesByte conv s) segments

heap_free : (conv : Conv) (segments : List Segment) (a : ℕ) → AreFree conv segments → IsInHeap conv a → All (λ s. ¬ IsIn a s) segments
heap_free conv segments a free in_heap k d lt in_segment = free k d lt (record { address = a; in_segment = in_segment; in_area = inl in_heap })

stack_free : (conv : Conv) (segments : List Segment) (a : ℕ) → AreFree conv segments → IsInStack conv a → All (λ s. ¬ IsIn a s) segments
stack_free conv segments a free in_stack k d lt in_segment = free k d lt (record { address = a; in_segment = in_segment; in_area = inr in_stack })

-- no address lies in both areas
not_both : (conv : Conv) (a : ℕ) → IsSoundConv conv → IsInStack conv a → ¬ IsInHeap conv a
not_both conv a sound in_stack in_heap =
    let p : conv.stack_base ≤ a = in_stack.0 in
    let q : a < conv.stack_base + conv.stack_size = in_stack.1 in
    let u : conv.heap_base ≤ a = in_heap.0 in
    let v : a < conv.heap_base + conv.heap_size = in_heap.1 in
    elim sound.apart [ inl below ↦ absurd (omega arith) | inr above ↦ absurd (omega arith) ]

pub first_memory : (conv : Conv) (segments : List Segment) → IsSoundConv conv → AreLoadable segments → AreFree conv segments → IsFirstMemory segments conv (memory_of (ranges_of conv segments))
first_memory conv segments sound loadable free = record {
  in_segment = λ k d lt a inside. memory_inside segments (heap conv ∷ stack conv ∷ []) k d a loadable.apart lt inside;
  in_heap = λ a inside. memory_past segments (heap conv ∷ stack conv ∷ []) a (heap_free conv segments a free inside) ∙ memory_heap conv a inside;
  in_stack = λ a inside. memory_past segments (heap conv ∷ stack conv ∷ []) a (stack_free conv segments a free inside) ∙ memory_stack conv a (not_both conv a sound inside) inside;
  elsewhere = λ a none no_heap no_stack. memory_past segments (heap conv ∷ stack conv ∷ []) a none ∙ memory_outside conv a no_heap no_stack;
  parts = ap parts_memory (parts_same conv segments);
}

-- ---- the frozen bytes

held_fixed : (s : Segment) (a : ℕ) → fixed_byte (Some (held_by s a)) ≡ cond s.write None (Some (slice_index s.bytes (a - s.base)))
held_fixed s a = refl

byte_inside : (conv : Conv) (segments : List Segment) (a : ℕ) → AreLoadable segments → Lies segments a → frozen_byte (frozen_of segments) a ≡ fixed_byte (memory_of (ranges_of conv segments) a)
byte_inside conv segments a loadable at =
    let s = get_or segments at.place at.segment in
    byte_found segments a
    ∙ ap (byte_in a) (found_inside segments at.place at.segment a loadable.bytes loadable.apart at.within at.inside)
    ∙ byte_fixed s a (loadable.bytes at.place at.segment at.within) at.inside
    ∙ sym (held_fixed s a)
    ∙ sym (ap fixed_byte (memory_inside segments (heap conv ∷ stack conv ∷ []) at.place at.segment a loadable.apart at.within at.inside))

-- no byte of an area is frozen
areas_written : (conv : Conv) (a : ℕ) → fixed_byte (memory_of (heap conv ∷ stack conv ∷ []) a) ≡ None
areas_written conv a = elim (cases_Bool (holds (heap conv) a)) [
  | inl in_heap ↦ ap fixed_byte (memory_heap conv a (held_lies (heap conv) a in_heap))
  | inr no_heap ↦ behind no_heap (cases_Bool (holds (stack conv) a))
]
  where
    outside : holds (heap conv) a ≡ false → ¬ IsInHeap conv a
    outside test inside = absurd (let both : true ≡ false = sym (lies_held (heap conv) a inside) ∙ test in cc)

    off : holds (stack conv) a ≡ false → ¬ IsInStack conv a
    off test inside = absurd (let both : true ≡ false = sym (lies_held (stack conv) a inside) ∙ test in cc)

    behind : holds (heap conv) a ≡ false → (holds (stack conv) a ≡ true) ⊎ (holds (stack conv) a ≡ false) → fixed_byte (memory_of (heap conv ∷ stack conv ∷ []) a) ≡ None
    behind no_heap (inl in_stack) = ap fixed_byte (memory_stack conv a (outside no_heap) (held_lies (stack conv) a in_stack))
    behind no_heap (inr no_stack) = ap fixed_byte (memory_outside conv a (outside no_heap) (off no_stack))

byte_elsewhere : (conv : Conv) (segments : List Segment) (a : ℕ) → AreLoadable segments → All (λ s. ¬ IsIn a s) segments → frozen_byte (frozen_of segments) a ≡ fixed_byte (memory_of (ranges_of conv segments) a)
byte_elsewhere conv segments a loadable none =
    byte_found segments a
    ∙ ap (byte_in a) (found_none segments a loadable.bytes none)
    ∙ sym (areas_written conv a)
    ∙ sym (ap fixed_byte (memory_past segments (heap conv ∷ stack conv ∷ []) a none))

frozen_bytes : (conv : Conv) (segments : List Segment) (a : ℕ) → AreLoadable segments → frozen_byte (frozen_of segments) a ≡ fixed_byte (memory_of (ranges_of conv segments) a)
frozen_bytes conv segments a loadable = elim (where_lies segments a) [
  | inl at ↦ byte_inside conv segments a loadable at
  | inr none ↦ byte_elsewhere conv segments a loadable none
]

-- ---- the parts

abbrev IsShortPart : FrozenPart → Type 0
IsShortPart p = length p.bytes < 2 ^ 32

abbrev EndsInTime : FrozenPart → Type 0
EndsInTime p = p.base + length p.bytes ≤ 2 ^ 32

short_part : (segments : List Segment) → AreLoadable segments → All (λ s. IsShortPart (part_of s)) segments
short_part segments loadable k d lt =
    let s = get_or segments k d in
    let len : length (whole_bytes s) ≡ s.len = whole_length s (loadable.bytes k d lt) in
    let most : s.len ≤ sum_by (λ (t : Segment). t.len) segments = get_or-le-sum_by (λ (t : Segment). t.len) segments k d lt in
    let size : sum_by (λ (t : Segment). t.len) segments ≤ 16777216 = loadable.size in
    omega (arith, len, most, size)

ending_part : (segments : List Segment) → AreLoadable segments → All (λ s. EndsInTime (part_of s)) segments
ending_part segments loadable k d lt =
    let s = get_or segments k d in
    let len : length (whole_bytes s) ≡ s.len = whole_length s (loadable.bytes k d lt) in
    let end : s.base + s.len ≤ 2 ^ 32 = loadable.ends k d lt in
    omega (arith, len, end)

pub frozen_image : (conv : Conv) (segments : List Segment) → AreLoadable segments → IsFrozen segments (memory_of (ranges_of conv segments)) (frozen_of segments)
frozen_image conv segments loadable = record {
  bytes = λ a. frozen_bytes conv segments a loadable;
  code = λ k d lt a inside. code_found segments a ∙ ap (rest_in a) (found_inside segments k d a loadable.bytes loadable.apart lt inside) ∙ rest_fixed (get_or segments k d) a;
  no_code = λ a none. code_found segments a ∙ ap (rest_in a) (found_none segments a loadable.bytes none);
  short = All-map IsShortPart part_of (filter is_fixed segments) (All-filter is_fixed (λ s. IsShortPart (part_of s)) segments (short_part segments loadable));
  ends = All-map EndsInTime part_of (filter is_fixed segments) (All-filter is_fixed (λ s. EndsInTime (part_of s)) segments (ending_part segments loadable));
}
