-- Which ranges share an address with one more.
use Rattle.std.proofs.Common.{◌≡◌, ℕ, suc, ◌<◌, ◌≤◌, Bool, true, false, List, [], ◌∷◌, ◌++◌, length, take, drop, get_or, refl, sym, ap, ◌∙◌, arith, inl, inr}
use Rattle.std.specs.Prelude.{◌||◌, min, max}
use Rattle.std.specs.List.{list_any}
use Rattle.std.proofs.lemmas.Bool.{le-ltb, lt-ltb, ltb-true, ltb-false, cases_Bool, or_cases, or_left, or_right, or_from}
use Rattle.std.proofs.lemmas.List.{take_all, append-nil}
use Rattle.rtl_core.specs.Contents.{Contents, is_mapped}
use Rattle.space.specs.declared.range.Range.{Range}
use Rattle.space.specs.Ranges.{end_of, holds, memory_of, shares}
use Rattle.space.specs.Order.{ascends, IsPassed}
use Rattle.space.proofs.Maps.{held_from, held_low, held_high, memory_here, memory_skip, memory_nil}
use Rattle.space.proofs.Rising.{whole_some, first_whole, first_low, rest_ascends, end_after, low_below_end, front_ascends, back_ascends, passed_front}
use Rattle.space.proofs.Lookups.{cut, cut_ascends}

-- an address of r that the ranges map
pub record Meets (r : Range) (xs : List Range) : Type 0 where
  pub address : ℕ
  pub lies : holds r address ≡ true
  pub mapped : is_mapped (memory_of xs address) ≡ true

shares_from : (r s : Range) (a : ℕ) → holds r a ≡ true → holds s a ≡ true → shares r s ≡ true
shares_from r s a h k =
    let p = held_low r a h in
    let q = held_high r a h in
    let t = held_low s a k in
    let u = held_high s a k in
    let l : max r.base s.base < min (end_of r) (end_of s) = omega arith in
    lt-ltb _ _ l

meets_first : (r x : Range) (xs : List Range) → shares r x ≡ true → Meets r (x ∷ xs)
meets_first r x xs t =
    let l : max r.base x.base < min (end_of r) (end_of x) = ltb-true _ _ t in
    let p : r.base ≤ max r.base x.base = omega arith in
    let q : max r.base x.base < end_of r = omega arith in
    let u : x.base ≤ max r.base x.base = omega arith in
    let v : max r.base x.base < end_of x = omega arith in
    record {
      address = max r.base x.base;
      lies = held_from r _ p q;
      mapped = ap is_mapped (memory_here x xs _ (held_from x _ u v));
    }

meets_later : (r x : Range) (xs : List Range) → Meets r xs → Meets r (x ∷ xs)
meets_later r x xs m = elim (cases_Bool (holds x m.address)) [
  | inl t ↦ record { address = m.address; lies = m.lies; mapped = ap is_mapped (memory_here x xs m.address t) }
  | inr f ↦ record { address = m.address; lies = m.lies; mapped = ap is_mapped (memory_skip x xs m.address f) ∙ m.mapped }
]

meets_from : (r : Range) (xs : List Range) → list_any (shares r) xs ≡ true → Meets r xs
meets_from r [] t = cc
meets_from r (x ∷ xs) t = elim (or_cases _ _ t) [
  | inl s ↦ meets_first r x xs s
  | inr l ↦ meets_later r x xs (meets_from r xs l)
]

pub any_from : (r : Range) (xs : List Range) (a : ℕ) → holds r a ≡ true → is_mapped (memory_of xs a) ≡ true → list_any (shares r) xs ≡ true
any_from r [] a h m = let n : is_mapped (memory_of [] a) ≡ false = ap is_mapped (memory_nil a) in cc
any_from r (x ∷ xs) a h m = elim (cases_Bool (holds x a)) [
  | inl t ↦ or_left _ _ (shares_from r x a h t)
  | inr f ↦ or_right _ _ (any_from r xs a h (ap is_mapped (sym (memory_skip x xs a f)) ∙ m))
]

any_along : (r : Range) (xs ys : List Range) → memory_of xs ≡ memory_of ys → list_any (shares r) xs ≡ true → list_any (shares r) ys ≡ true
any_along r xs ys e t =
    let m = meets_from r xs t in
    any_from r ys m.address m.lies (ap (λ (c : Contents). is_mapped (c m.address)) (sym e) ∙ m.mapped)

same_bools : (b c : Bool) → (b ≡ true → c ≡ true) → (c ≡ true → b ≡ true) → b ≡ c
same_bools true c f g = sym (f refl)
same_bools false true f g = g refl
same_bools false false f g = refl

-- it depends on what the ranges map alone
pub any_same : (r : Range) (xs ys : List Range) → memory_of xs ≡ memory_of ys → list_any (shares r) xs ≡ list_any (shares r) ys
any_same r xs ys e = same_bools _ _ (any_along r xs ys e) (any_along r ys xs (sym e))

-- ranges that end at or below its base share none with it
pub front_apart : (low : ℕ) (r : Range) (xs ys : List Range) → ascends low xs ≡ true → end_after low xs ≤ r.base → list_any (shares r) (xs ++ ys) ≡ list_any (shares r) ys
front_apart low r [] ys o h = refl
front_apart low r (x ∷ xs) ys o h =
    let t = rest_ascends low x xs o in
    let l = low_below_end (end_of x) xs t in
    let b : min (end_of r) (end_of x) ≤ max r.base x.base = omega arith in
    ap (λ c. c || list_any (shares r) (xs ++ ys)) (le-ltb _ _ b) ∙ front_apart (end_of x) r xs ys t h

-- nor do those that begin at or above its end
back_apart : (low : ℕ) (r : Range) (ys : List Range) → ascends low ys ≡ true → end_of r ≤ low → list_any (shares r) ys ≡ false
back_apart low r [] o h = refl
back_apart low r (y ∷ ys) o h =
    let l = first_low low y ys o in
    let b : min (end_of r) (end_of y) ≤ max r.base y.base = omega arith in
    let e : end_of r ≤ end_of y = omega arith in
    or_from _ _ (le-ltb _ _ b) (back_apart (end_of y) r ys (rest_ascends low y ys o) e)

or_first : (b c : Bool) → (b ≡ false → c ≡ false) → (b || c) ≡ b
or_first true c f = refl
or_first false c f = f refl

-- of those whose first ends above its base, the first alone decides
next_decides : (low : ℕ) (r q : Range) (ys : List Range) → ascends low (q ∷ ys) ≡ true → r.base < end_of q → list_any (shares r) (q ∷ ys) ≡ shares r q
next_decides low r q ys o h = or_first (shares r q) (list_any (shares r) ys) (λ f.
    let w = whole_some q (first_whole low q ys o) in
    let l : min (end_of r) (end_of q) ≤ max r.base q.base = ltb-false _ _ f in
    let e : end_of r ≤ end_of q = omega arith in
    back_apart (end_of q) r ys (rest_ascends low q ys o) e)

pub none_meet : (rs : List Range) (r : Range) (n : ℕ) → ascends 0 rs ≡ true → IsPassed rs r.base n → n ≡ length rs → list_any (shares r) rs ≡ false
none_meet rs r n o p e =
    let g : length rs ≤ n = omega arith in
    let f = passed_front rs r.base n p in
    let t : end_after 0 (take n rs) ≡ end_after 0 rs = ap (end_after 0) (take_all n rs g) in
    let l : end_after 0 rs ≤ r.base = omega (arith, t, f) in
    sym (ap (list_any (shares r)) (append-nil rs)) ∙ front_apart 0 r rs [] o l

pub next_meets : (rs : List Range) (r q d : Range) (n : ℕ) → ascends 0 rs ≡ true → IsPassed rs r.base n → n < length rs → q ≡ get_or rs n d → shares r q ≡ list_any (shares r) rs
next_meets rs r q d n o p h e =
    let s = cut_ascends rs n q d h e o in
    let u : n ≤ n = omega arith in
    let above : r.base < end_of (get_or rs n d) = p.above n d u h in
    let k : end_of q ≡ end_of (get_or rs n d) = ap end_of e in
    let b : r.base < end_of q = omega (arith, above, k) in
    sym (next_decides (end_after 0 (take n rs)) r q (drop (suc n) rs) (back_ascends 0 (take n rs) (q ∷ drop (suc n) rs) s) b)
    ∙ sym (front_apart 0 r (take n rs) (q ∷ drop (suc n) rs) (front_ascends 0 (take n rs) (q ∷ drop (suc n) rs) s) (passed_front rs r.base n p))
    ∙ ap (list_any (shares r)) (cut rs n q d h e)
