-- The ranges of an image have no fault.
use Rattle.std.proofs.Common.{◌≡◌, ℕ, suc, ◌+◌, ◌^◌, ◌<◌, ◌≤◌, Bool, false, List, [], ◌∷◌, ◌++◌, length, get_or, map, All, AllPairs, refl, ap, ◌∙◌, inl, inr, arith}
use Rattle.std.specs.Prelude.{Some, None, if◌then◌else◌}
use Rattle.std.specs.List.{list_any}
use Rattle.std.specs.Option.{option_or}
use Rattle.std.proofs.lemmas.Bool.{le-ltb, or_from}
use Rattle.std.proofs.lemmas.List.Elements.{All-nil, All-cons, All-head, All-tail, All-append, All-map, All-weaker}
use Rattle.std.proofs.lemmas.List.Folds.{list_any-append}
use Rattle.std.proofs.lemmas.List.Kept.{AllPairs-cons}
use Rattle.rtl_core.specs.declared.conv.Conv.{Conv}
use Rattle.rtl_core.specs.SoundConv.{IsSoundConv}
use Rattle.elf32.specs.declared.elf.Segment.{Segment}
use Rattle.elf32.specs.Reading.{AreApart, AreLoadable}
use Rattle.space.specs.declared.range.Range.{Range}
use Rattle.space.specs.declared.fault.SpaceFault.TheVariants.{PastEnd, Overlap}
use Rattle.space.specs.Ranges.{HasRoom, end_of, shares}
use Rattle.space.specs.Faults.{passes_end, told, ranges_fault}
use Rattle.load_image.specs.Areas.{range_of, heap, stack, SharesByte}
use Rattle.load_image.specs.Mapped.{AreBuildable}
use Rattle.load_image.specs.Made.{ranges_of}
use Rattle.load_image.proofs.Overlaps.{none_shared}
use Rattle.load_image.proofs.Lookups.{head_apart, tail_apart}

-- ---- ranges of which none passes the end, and no two share an address

abbrev EndsInTime : Range → Type 0
EndsInTime r = end_of r ≤ 2 ^ 32

-- the later of two shares no address with the earlier
abbrev IsBeside : Range → Range → Type 0
IsBeside r q = shares q r ≡ false

-- a range shares no address with earlier ones
abbrev IsFree : List Range → Range → Type 0
IsFree earlier r = list_any (shares r) earlier ≡ false

fault_none : (p s : Bool) (index : ℕ) → p ≡ false → s ≡ false → (if p then Some (PastEnd index) else if s then Some (Overlap index) else None) ≡ None
fault_none p s index ep es = rw (ep, es) refl

free_more : (earlier : List Range) (r q : Range) → IsFree earlier q → IsBeside r q → IsFree (earlier ++ r ∷ []) q
free_more earlier r q free beside = list_any-append (shares q) earlier (r ∷ []) ∙ or_from _ _ free (or_from _ _ beside refl)

all_more : (earlier : List Range) (r : Range) (rs : List Range) → All (IsFree earlier) rs → All (IsBeside r) rs → All (IsFree (earlier ++ r ∷ [])) rs
all_more earlier r rs free beside k d lt = free_more earlier r (get_or rs k d) (free k d lt) (beside k d lt)

no_fault : (earlier rs : List Range) → All EndsInTime rs → AllPairs IsBeside rs → All (IsFree earlier) rs → ranges_fault earlier rs ≡ None
unfolding ranges_fault
no_fault earlier [] ends beside free = refl
no_fault earlier (r ∷ rs) ends beside free =
    let end : end_of r ≤ 2 ^ 32 = All-head EndsInTime r rs ends in
    ap (λ o. option_or o (ranges_fault (earlier ++ r ∷ []) rs)) (fault_none (passes_end r) (list_any (shares r) earlier) (told (length earlier)) (le-ltb _ _ end) (All-head (IsFree earlier) r rs free))
    ∙ no_fault (earlier ++ r ∷ []) rs (All-tail EndsInTime r rs ends)
    (λ i j d less lt. beside (suc i) (suc j) d (omega arith) (omega arith))
    (all_more earlier r rs (All-tail (IsFree earlier) r rs free) (λ k d lt. beside 0 (suc k) d (omega arith) (omega arith)))

none_before : (rs : List Range) → All (IsFree []) rs
none_before rs k d lt = refl

-- ---- those of an image

areas_apart : (conv : Conv) → IsSoundConv conv → IsBeside (heap conv) (stack conv)
areas_apart conv sound = none_shared (stack conv) (heap conv) (λ a in_stack in_heap.
    let p : conv.stack_base ≤ a = in_stack.0 in
    let q : a < conv.stack_base + conv.stack_size = in_stack.1 in
    let u : conv.heap_base ≤ a = in_heap.0 in
    let v : a < conv.heap_base + conv.heap_size = in_heap.1 in
    elim sound.apart [ inl below ↦ absurd (omega arith) | inr above ↦ absurd (omega arith) ])

beside_areas : (conv : Conv) (s : Segment) → ¬ SharesByte conv s → All (IsBeside (range_of s)) (heap conv ∷ stack conv ∷ [])
beside_areas conv s free =
    All-cons (IsBeside (range_of s)) (heap conv) (stack conv ∷ [])
    (none_shared (heap conv) (range_of s) (λ a in_heap in_segment. free (record { address = a; in_segment = in_segment; in_area = inl in_heap })))
    (All-cons (IsBeside (range_of s)) (stack conv) []
    (none_shared (stack conv) (range_of s) (λ a in_stack in_segment. free (record { address = a; in_segment = in_segment; in_area = inr in_stack })))
    (All-nil (IsBeside (range_of s))))

all_beside : (conv : Conv) (segments : List Segment) → IsSoundConv conv → AllPairs AreApart segments → All (λ s. ¬ SharesByte conv s) segments → AllPairs IsBeside (ranges_of conv segments)
all_beside conv [] sound apart free =
    AllPairs-cons IsBeside (heap conv) (stack conv ∷ [])
    (All-cons (IsBeside (heap conv)) (stack conv) [] (areas_apart conv sound) (All-nil (IsBeside (heap conv))))
    (AllPairs-cons IsBeside (stack conv) [] (All-nil (IsBeside (stack conv))) (λ i j d less lt. absurd (omega arith)))
all_beside conv (s ∷ ss) sound apart free =
    AllPairs-cons IsBeside (range_of s) (ranges_of conv ss)
    (All-append (IsBeside (range_of s)) (map range_of ss) (heap conv ∷ stack conv ∷ [])
    (All-map (IsBeside (range_of s)) range_of ss
    (All-weaker (AreApart s) (λ t. IsBeside (range_of s) (range_of t)) (λ t p. none_shared (range_of t) (range_of s) (λ a in_t in_s. p a in_s in_t)) ss (head_apart s ss apart)))
    (beside_areas conv s (All-head (λ s. ¬ SharesByte conv s) s ss free)))
    (all_beside conv ss sound (tail_apart s ss apart) (All-tail (λ s. ¬ SharesByte conv s) s ss free))

all_end : (conv : Conv) (segments : List Segment) → IsSoundConv conv → AreLoadable segments → All EndsInTime (ranges_of conv segments)
all_end conv segments sound loadable =
    All-append EndsInTime (map range_of segments) (heap conv ∷ stack conv ∷ [])
    (All-map EndsInTime range_of segments loadable.ends)
    (All-cons EndsInTime (heap conv) (stack conv ∷ []) sound.heap.end (All-cons EndsInTime (stack conv) [] sound.stack.end (All-nil EndsInTime)))

all_room : (conv : Conv) (segments : List Segment) → AreLoadable segments → All HasRoom (ranges_of conv segments)
all_room conv segments loadable =
    let heap_room : HasRoom (heap conv) = omega arith in
    let stack_room : HasRoom (stack conv) = omega arith in
    All-append HasRoom (map range_of segments) (heap conv ∷ stack conv ∷ [])
    (All-map HasRoom range_of segments loadable.bytes)
    (All-cons HasRoom (heap conv) (stack conv ∷ []) heap_room (All-cons HasRoom (stack conv) [] stack_room (All-nil HasRoom)))

pub buildable : (conv : Conv) (segments : List Segment) → IsSoundConv conv → AreLoadable segments → All (λ s. ¬ SharesByte conv s) segments → AreBuildable (ranges_of conv segments)
buildable conv segments sound loadable free = record {
  room = all_room conv segments loadable;
  free = no_fault [] (ranges_of conv segments) (all_end conv segments sound loadable) (all_beside conv segments sound loadable.apart free) (none_before (ranges_of conv segments));
}
