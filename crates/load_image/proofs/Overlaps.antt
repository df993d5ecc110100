-- What the test of overlaps says of addresses, and the first segment that fails it.
use Rattle.std.proofs.Common.{◌≡◌, ℕ, ◌<◌, ◌≤◌, min, max, true, false, List, [], ◌∷◌, All, cond, refl, sym, ap, ◌∙◌, inl, inr, arith}
use Rattle.std.specs.Prelude.{Some, None, option_map}
use Rattle.std.specs.List.{find}
use Rattle.std.proofs.lemmas.Bool.{ltb-true, lt-ltb, cases_Bool, or_cases, or_left, or_right, both_ways, false_from_ne_true}
use Rattle.std.proofs.lemmas.List.Elements.{All-nil, All-cons}
use Rattle.rtl_core.specs.declared.conv.Conv.{Conv}
use Rattle.elf32.specs.declared.elf.Segment.{Segment}
use Rattle.space.specs.declared.range.Range.{Range}
use Rattle.space.specs.Ranges.{end_of, shares}
use Rattle.load_image.specs.declared.fault.ImageFault.{ImageFault}
use Rattle.load_image.specs.declared.fault.ImageFault.TheVariants as faults
use Rattle.load_image.specs.Areas.{range_of, heap, stack, meets_area, overlap_fault, SharesByte, IsFirstOverlap}

-- an address lies in a range
abbrev pub LiesIn : ℕ → Range → Type 0
LiesIn a r = (r.base ≤ a) × (a < end_of r)

-- an address in both ranges
pub record InTwo (r q : Range) : Type 0 where
  pub address : ℕ
  pub in_first : LiesIn address r
  pub in_second : LiesIn address q

pub two_share : (r q : Range) (a : ℕ) → LiesIn a r → LiesIn a q → shares r q ≡ true
two_share r q a in_r in_q =
    let low : r.base ≤ a = in_r.0 in
    let high : a < end_of r = in_r.1 in
    let low2 : q.base ≤ a = in_q.0 in
    let high2 : a < end_of q = in_q.1 in
    let less : max r.base q.base < min (end_of r) (end_of q) = omega arith in
    lt-ltb _ _ less

pub shared_in_two : (r q : Range) → shares r q ≡ true → InTwo r q
shared_in_two r q test =
    let less : max r.base q.base < min (end_of r) (end_of q) = ltb-true _ _ test in
    let a : r.base ≤ max r.base q.base = omega arith in
    let b : max r.base q.base < end_of r = omega arith in
    let c : q.base ≤ max r.base q.base = omega arith in
    let d : max r.base q.base < end_of q = omega arith in
    record { address = max r.base q.base; in_first = (a, b); in_second = (c, d) }

-- ranges of which no address lies in both
pub none_shared : (r q : Range) → ((a : ℕ) → LiesIn a r → LiesIn a q → ⊥) → shares r q ≡ false
none_shared r q apart = false_from_ne_true (shares r q) (λ test. let two = shared_in_two r q test in apart two.address two.in_first two.in_second)

-- ---- a segment and the areas

pub met_shares : (conv : Conv) (s : Segment) → meets_area conv s ≡ true → SharesByte conv s
met_shares conv s test = elim (or_cases (shares (range_of s) (heap conv)) (shares (range_of s) (stack conv)) test) [
  | inl h ↦ (let two = shared_in_two (range_of s) (heap conv) h in record { address = two.address; in_segment = two.in_first; in_area = inl two.in_second })
  | inr h ↦ (let two = shared_in_two (range_of s) (stack conv) h in record { address = two.address; in_segment = two.in_first; in_area = inr two.in_second })
]

pub shares_met : (conv : Conv) (s : Segment) → SharesByte conv s → meets_area conv s ≡ true
shares_met conv s both = elim both.in_area [
  | inl in_heap ↦ or_left _ _ (two_share (range_of s) (heap conv) both.address both.in_segment in_heap)
  | inr in_stack ↦ or_right _ _ (two_share (range_of s) (stack conv) both.address both.in_segment in_stack)
]

pub unmet_apart : (conv : Conv) (s : Segment) → meets_area conv s ≡ false → ¬ SharesByte conv s
unmet_apart conv s test both = both_ways _ test (shares_met conv s both)

-- ---- the first segment

abbrev fault_of : Segment → ImageFault
fault_of s = faults.AreaOverlap s.header

fault_here : (conv : Conv) (s : Segment) (ss : List Segment) → meets_area conv s ≡ true → overlap_fault conv (s ∷ ss) ≡ Some (fault_of s)
fault_here conv s ss test = ap (λ b. option_map fault_of (cond b (Some s) (find (meets_area conv) ss))) test

fault_later : (conv : Conv) (s : Segment) (ss : List Segment) → meets_area conv s ≡ false → overlap_fault conv (s ∷ ss) ≡ overlap_fault conv ss
fault_later conv s ss test = ap (λ b. option_map fault_of (cond b (Some s) (find (meets_area conv) ss))) test

pub none_overlaps : (conv : Conv) (segments : List Segment) → overlap_fault conv segments ≡ None → All (λ s. ¬ SharesByte conv s) segments
none_overlaps conv [] none = All-nil (λ s. ¬ SharesByte conv s)
none_overlaps conv (s ∷ ss) none = elim (cases_Bool (meets_area conv s)) [
  | inl test ↦ absurd (let some : Some (fault_of s) ≡ None = sym (fault_here conv s ss test) ∙ none in cc)
  | inr test ↦ All-cons (λ s. ¬ SharesByte conv s) s ss (unmet_apart conv s test) (none_overlaps conv ss (sym (fault_later conv s ss test) ∙ none))
]

pub first_overlap : (conv : Conv) (segments : List Segment) (fault : ImageFault) → overlap_fault conv segments ≡ Some fault → IsFirstOverlap conv segments fault
first_overlap conv [] fault found = absurd (let none : None ≡ Some fault = found in cc)
first_overlap conv (s ∷ ss) fault found = elim (cases_Bool (meets_area conv s)) [
  | inl test ↦ record {
    before = [];
    segment = s;
    behind = ss;
    stands = refl;
    tells = (let same : Some (fault_of s) ≡ Some fault = sym (fault_here conv s ss test) ∙ found in cc);
    shares_byte = met_shares conv s test;
    first = All-nil (λ s. ¬ SharesByte conv s);
  }
  | inr test ↦ (let rest = first_overlap conv ss fault (sym (fault_later conv s ss test) ∙ found) in record {
    before = s ∷ rest.before;
    segment = rest.segment;
    behind = rest.behind;
    stands = ap (λ xs. s ∷ xs) rest.stands;
    tells = rest.tells;
    shares_byte = rest.shares_byte;
    first = All-cons (λ s. ¬ SharesByte conv s) s rest.before (unmet_apart conv s test) rest.first;
  })
]
