-- What the frozen parts of segments hold at an address.
use Rattle.std.proofs.Common.{◌≡◌, ℕ, zero, suc, ◌+◌, ◌-◌, ◌<◌, ◌≤◌, Bool, true, false, not, cond, List, [], ◌∷◌, ◌++◌, length, get_or, take, map, filter, All, AllPairs, refl, sym, ap, ◌∙◌, inl, inr, arith, length-append}
use Rattle.std.specs.Prelude.{Option, Some, None, replicate, slice_get, slice_index}
use Rattle.std.proofs.lemmas.Bool.{leb-true, lt-ltb, ltb-true, le-leb, and_parts, and_from, cond-true, cond-false, cases_Bool, false_from_ne_true}
use Rattle.std.proofs.lemmas.List.{length-replicate, map-append, take_more}
use Rattle.std.proofs.lemmas.List.Elements.{All-head, All-tail, filter-append}
use Rattle.rtl_core.specs.declared.frozen.FrozenPart.{FrozenPart}
use Rattle.rtl_core.specs.Code as Code
use Rattle.rtl_core.specs.Code.{is_in, frozen_byte, code_from, byte_in, rest_in}
use Rattle.elf32.specs.declared.elf.Segment.{Segment}
use Rattle.elf32.specs.Reading.{IsIn, AreApart}
use Rattle.load_image.specs.FrozenBytes.{whole_bytes, part_of, is_fixed, frozen_of, code_rest}
use Rattle.load_image.proofs.Lookups.{head_apart, tail_apart}

-- ---- one segment more

one_part : (b : Bool) (s : Segment) → map part_of (cond b (s ∷ []) []) ≡ cond b (part_of s ∷ []) []
one_part true s = refl
one_part false s = refl

pub parts_more : (segments : List Segment) (i : ℕ) (s d : Segment) (old new : List FrozenPart) → old ≡ map part_of (filter is_fixed (take i segments)) → new ≡ old ++ cond (is_fixed s) (part_of s ∷ []) [] → i < length segments → s ≡ get_or segments i d → new ≡ map part_of (filter is_fixed (take (i + 1) segments))
parts_more segments i s d old new is_old is_new lt is =
    is_new
    ∙ ap (λ ps. ps ++ cond (is_fixed s) (part_of s ∷ []) []) is_old
    ∙ ap (λ ps. map part_of (filter is_fixed (take i segments)) ++ ps) (sym (one_part (is_fixed s) s))
    ∙ sym (map-append part_of (filter is_fixed (take i segments)) (cond (is_fixed s) (s ∷ []) []))
    ∙ ap (map part_of) (sym (filter-append is_fixed (take i segments) (s ∷ [])))
    ∙ ap (λ x. map part_of (filter is_fixed (take i segments ++ x ∷ []))) is
    ∙ ap (λ xs. map part_of (filter is_fixed xs)) (sym (take_more segments i d lt))

-- ---- one part

abbrev pub HasFewBytes : Segment → Type 0
HasFewBytes s = length s.bytes ≤ s.len

pub whole_length : (s : Segment) → HasFewBytes s → length (whole_bytes s) ≡ s.len
whole_length s few = omega (arith, length-append s.bytes (replicate (s.len - length s.bytes) 0), length-replicate {A = ℕ} (s.len - length s.bytes) 0)

in_part : (s : Segment) (a : ℕ) → HasFewBytes s → IsIn a s → is_in (part_of s) a ≡ true
in_part s a few inside =
    let len : length (whole_bytes s) ≡ s.len = whole_length s few in
    let low : s.base ≤ a = inside.0 in
    let high : a < s.base + s.len = inside.1 in
    let high2 : a < s.base + length (whole_bytes s) = omega (arith, len) in
    and_from _ _ (le-leb _ _ low) (lt-ltb _ _ high2)

out_of_part : (s : Segment) (a : ℕ) → HasFewBytes s → ¬ IsIn a s → is_in (part_of s) a ≡ false
out_of_part s a few outside = false_from_ne_true (is_in (part_of s) a) (λ test.
    let parts = and_parts _ _ test in
    let len : length (whole_bytes s) ≡ s.len = whole_length s few in
    let low : s.base ≤ a = leb-true _ _ parts.0 in
    let high : a < s.base + length (whole_bytes s) = ltb-true _ _ parts.1 in
    let high2 : a < s.base + s.len = omega (arith, len, high) in
    outside (low, high2))

zero_there : (n i : ℕ) → i < n → slice_get {X = ℕ} (replicate n 0) i ≡ Some 0
zero_there zero i lt = absurd (omega arith)
zero_there (suc n) zero lt = refl
zero_there (suc n) (suc i) lt = let less : i < n = omega arith in zero_there n i less

byte_there : (bytes : List ℕ) (n i : ℕ) → i < length bytes + n → slice_get (bytes ++ replicate n 0) i ≡ Some (slice_index bytes i)
byte_there [] n i lt = let less : i < n = omega arith in zero_there n i less
byte_there (b ∷ bytes) n zero lt = refl
byte_there (b ∷ bytes) n (suc i) lt = let less : i < length bytes + n = omega arith in byte_there bytes n i less

whole_byte : (s : Segment) (a : ℕ) → HasFewBytes s → IsIn a s → slice_get (whole_bytes s) (a - s.base) ≡ Some (slice_index s.bytes (a - s.base))
whole_byte s a few inside =
    let low : s.base ≤ a = inside.0 in
    let high : a < s.base + s.len = inside.1 in
    let within : a - s.base < length s.bytes + (s.len - length s.bytes) = omega arith in
    byte_there s.bytes (s.len - length s.bytes) (a - s.base) within

-- ---- the part of an address

abbrev pub found : List Segment → ℕ → Option FrozenPart
found segments a = Code.part_of (map part_of (filter is_fixed segments)) a

-- the part of a segment, where it may not be written
abbrev pub fixed_part : Segment → Option FrozenPart
fixed_part s = cond s.write None (Some (part_of s))

found_written : (s : Segment) (ss : List Segment) (a : ℕ) → s.write ≡ true → found (s ∷ ss) a ≡ found ss a
found_written s ss a e = ap (λ w. Code.part_of (map part_of (cond (not w) (s ∷ filter is_fixed ss) (filter is_fixed ss))) a) e

found_fixed : (s : Segment) (ss : List Segment) (a : ℕ) → s.write ≡ false → found (s ∷ ss) a ≡ cond (is_in (part_of s) a) (Some (part_of s)) (found ss a)
found_fixed s ss a e = ap (λ w. Code.part_of (map part_of (cond (not w) (s ∷ filter is_fixed ss) (filter is_fixed ss))) a) e

found_skip : (s : Segment) (ss : List Segment) (a : ℕ) → HasFewBytes s → ¬ IsIn a s → found (s ∷ ss) a ≡ found ss a
found_skip s ss a few outside = elim (cases_Bool s.write) [
  | inl e ↦ found_written s ss a e
  | inr e ↦ found_fixed s ss a e ∙ cond-false _ _ _ (out_of_part s a few outside)
]

pub found_none : (segments : List Segment) (a : ℕ) → All HasFewBytes segments → All (λ s. ¬ IsIn a s) segments → found segments a ≡ None
found_none [] a few none = refl
found_none (s ∷ ss) a few none =
    found_skip s ss a (All-head HasFewBytes s ss few) (All-head (λ s. ¬ IsIn a s) s ss none)
    ∙ found_none ss a (All-tail HasFewBytes s ss few) (All-tail (λ s. ¬ IsIn a s) s ss none)

found_first : (s : Segment) (ss : List Segment) (a : ℕ) → HasFewBytes s → IsIn a s → found ss a ≡ None → found (s ∷ ss) a ≡ fixed_part s
found_first s ss a few inside none = elim (cases_Bool s.write) [
  | inl e ↦ found_written s ss a e ∙ none ∙ sym (cond-true _ _ _ e)
  | inr e ↦ found_fixed s ss a e ∙ cond-true _ _ _ (in_part s a few inside) ∙ sym (cond-false _ _ _ e)
]

pub found_inside : (segments : List Segment) (k : ℕ) (d : Segment) (a : ℕ) → All HasFewBytes segments → AllPairs AreApart segments → k < length segments → IsIn a (get_or segments k d) → found segments a ≡ fixed_part (get_or segments k d)
found_inside [] k d a few apart lt inside = absurd (omega arith)
found_inside (s ∷ ss) zero d a few apart lt inside =
    found_first s ss a (All-head HasFewBytes s ss few) inside (found_none ss a (All-tail HasFewBytes s ss few) (λ k e within. head_apart s ss apart k e within a inside))
found_inside (s ∷ ss) (suc k) d a few apart lt inside =
    let within : k < length ss = omega arith in
    found_skip s ss a (All-head HasFewBytes s ss few) (λ first. head_apart s ss apart k d within a first inside)
    ∙ found_inside ss k d a (All-tail HasFewBytes s ss few) (tail_apart s ss apart) within inside

-- ---- the byte and the code of an address

pub byte_found : (segments : List Segment) (a : ℕ) → frozen_byte (frozen_of segments) a ≡ byte_in a (found segments a)
unfolding frozen_byte
byte_found segments a = refl

pub code_found : (segments : List Segment) (a : ℕ) → code_from (frozen_of segments) a ≡ rest_in a (found segments a)
unfolding code_from
code_found segments a = refl

pub byte_fixed : (s : Segment) (a : ℕ) → HasFewBytes s → IsIn a s → byte_in a (fixed_part s) ≡ cond s.write None (Some (slice_index s.bytes (a - s.base)))
byte_fixed s a few inside = elim (cases_Bool s.write) [
  | inl e ↦ ap (byte_in a) (cond-true _ _ _ e) ∙ sym (cond-true _ _ _ e)
  | inr e ↦ ap (byte_in a) (cond-false _ _ _ e) ∙ whole_byte s a few inside ∙ sym (cond-false _ _ _ e)
]

pub rest_fixed : (s : Segment) (a : ℕ) → rest_in a (fixed_part s) ≡ code_rest s a
rest_fixed s a = by s.exec s.write refl refl
  where
    by : (x w : Bool) → s.exec ≡ x → s.write ≡ w → rest_in a (fixed_part s) ≡ code_rest s a
    by true true ex ew = rw (ex, ew) refl
    by true false ex ew = rw (ex, ew) refl
    by false true ex ew = rw (ex, ew) refl
    by false false ex ew = rw (ex, ew) refl
