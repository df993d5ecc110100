-- Ranges in order.
use Rattle.std.proofs.Common.{◌≡◌, ℕ, zero, suc, ◌<◌, ◌≤◌, true, List, [], ◌∷◌, ◌++◌, length, take, get_or, refl, ap, ◌∙◌, arith}
use Rattle.std.specs.Prelude.{None}
use Rattle.std.specs.Option.{option_or}
use Rattle.std.proofs.lemmas.Bool.{leb-true, ltb-true, eqb-true, le-leb, and_parts, and_from}
use Rattle.space.specs.declared.range.Range.{Range}
use Rattle.space.specs.Ranges.{end_of, memory_of}
use Rattle.space.specs.Order.{ascends, is_whole, IsPassed}
use Rattle.space.proofs.Maps.{not_below, not_above, memory_skip, memory_nil, memory_append}

pub whole_full : (r : Range) → is_whole r ≡ true → length r.bytes ≡ r.len
whole_full r w = eqb-true _ _ (and_parts _ _ w).1

pub whole_some : (r : Range) → is_whole r ≡ true → 0 < r.len
whole_some r w = ltb-true _ _ (and_parts _ _ w).0

pub first_whole : (low : ℕ) (r : Range) (rs : List Range) → ascends low (r ∷ rs) ≡ true → is_whole r ≡ true
unfolding ascends
first_whole low r rs o = (and_parts _ _ (and_parts _ _ o).0).0

pub first_low : (low : ℕ) (r : Range) (rs : List Range) → ascends low (r ∷ rs) ≡ true → low ≤ r.base
unfolding ascends
first_low low r rs o = leb-true _ _ (and_parts _ _ (and_parts _ _ o).0).1

pub rest_ascends : (low : ℕ) (r : Range) (rs : List Range) → ascends low (r ∷ rs) ≡ true → ascends (end_of r) rs ≡ true
unfolding ascends
rest_ascends low r rs o = (and_parts _ _ o).1

pub ascends_from : (low : ℕ) (r : Range) (rs : List Range) → is_whole r ≡ true → low ≤ r.base → ascends (end_of r) rs ≡ true → ascends low (r ∷ rs) ≡ true
unfolding ascends
ascends_from low r rs w l o = and_from _ _ (and_from _ _ w (le-leb _ _ l)) o

pub none_ascend : (low : ℕ) → ascends low [] ≡ true
unfolding ascends
none_ascend low = refl

-- the end of the last range, or this address where there is none
abbrev pub end_after : ℕ → List Range → ℕ
end_after low [] = low
end_after low (r ∷ rs) = end_after (end_of r) rs

pub low_below_end : (low : ℕ) (rs : List Range) → ascends low rs ≡ true → low ≤ end_after low rs
low_below_end low [] o = omega arith
low_below_end low (r ∷ rs) o =
    let l = first_low low r rs o in
    let m = low_below_end (end_of r) rs (rest_ascends low r rs o) in
    omega arith

pub front_ascends : (low : ℕ) (xs ys : List Range) → ascends low (xs ++ ys) ≡ true → ascends low xs ≡ true
front_ascends low [] ys o = none_ascend low
front_ascends low (x ∷ xs) ys o =
    ascends_from low x xs (first_whole low x (xs ++ ys) o) (first_low low x (xs ++ ys) o) (front_ascends (end_of x) xs ys (rest_ascends low x (xs ++ ys) o))

pub back_ascends : (low : ℕ) (xs ys : List Range) → ascends low (xs ++ ys) ≡ true → ascends (end_after low xs) ys ≡ true
back_ascends low [] ys o = o
back_ascends low (x ∷ xs) ys o = back_ascends (end_of x) xs ys (rest_ascends low x (xs ++ ys) o)

pub joined_ascends : (low : ℕ) (xs ys : List Range) → ascends low xs ≡ true → ascends (end_after low xs) ys ≡ true → ascends low (xs ++ ys) ≡ true
joined_ascends low [] ys o p = p
joined_ascends low (x ∷ xs) ys o p =
    ascends_from low x (xs ++ ys) (first_whole low x xs o) (first_low low x xs o) (joined_ascends (end_of x) xs ys (rest_ascends low x xs o) p)

-- nothing is mapped below the first range, or at the end of the last and above
pub below_none : (low : ℕ) (rs : List Range) (a : ℕ) → ascends low rs ≡ true → a < low → memory_of rs a ≡ None
below_none low [] a o h = memory_nil a
below_none low (r ∷ rs) a o h =
    let l = first_low low r rs o in
    let b : a < r.base = omega arith in
    let e : a < end_of r = omega arith in
    memory_skip r rs a (not_below r a b) ∙ below_none (end_of r) rs a (rest_ascends low r rs o) e

pub past_none : (low : ℕ) (rs : List Range) (a : ℕ) → ascends low rs ≡ true → end_after low rs ≤ a → memory_of rs a ≡ None
past_none low [] a o h = memory_nil a
past_none low (r ∷ rs) a o h =
    let t = rest_ascends low r rs o in
    let l = low_below_end (end_of r) rs t in
    let e : end_of r ≤ a = omega arith in
    memory_skip r rs a (not_above r a e) ∙ past_none (end_of r) rs a t h

-- behind ranges that end at or below an address
pub past_front : (low : ℕ) (xs ys : List Range) (a : ℕ) → ascends low xs ≡ true → end_after low xs ≤ a → memory_of (xs ++ ys) a ≡ memory_of ys a
past_front low xs ys a o h = memory_append xs ys a ∙ ap (λ p. option_or p (memory_of ys a)) (past_none low xs a o h)

-- the first n ranges end at or below an address where each of them does
pub end_of_front : (rs : List Range) (low a n : ℕ) → low ≤ a → ((k : ℕ) (d : Range) → k < n → end_of (get_or rs k d) ≤ a) → end_after low (take n rs) ≤ a
end_of_front rs low a zero l h = l
end_of_front [] low a (suc n) l h = l
end_of_front (r ∷ rs) low a (suc n) l h =
    let first : 0 < suc n = omega arith in
    end_of_front rs (end_of r) a n (h 0 r first) (λ k d b. let c : suc k < suc n = omega arith in h (suc k) d c)

pub passed_front : (rs : List Range) (a n : ℕ) → IsPassed rs a n → end_after 0 (take n rs) ≤ a
passed_front rs a n p = let z : 0 ≤ a = omega arith in end_of_front rs 0 a n z p.below

-- the ends rise with the ranges
ends_above : (low : ℕ) (rs : List Range) (j : ℕ) (d : Range) → ascends low rs ≡ true → j < length rs → low ≤ end_of (get_or rs j d)
ends_above low [] j d o h = absurd (omega arith)
ends_above low (r ∷ rs) zero d o h = let l = first_low low r rs o in omega arith
ends_above low (r ∷ rs) (suc j) d o h =
    let l = first_low low r rs o in
    let k : j < length rs = omega arith in
    let m = ends_above (end_of r) rs j d (rest_ascends low r rs o) k in
    omega arith

pub ends_rise : (low : ℕ) (rs : List Range) → ascends low rs ≡ true → (i j : ℕ) (d : Range) → i ≤ j → j < length rs → end_of (get_or rs i d) ≤ end_of (get_or rs j d)
ends_rise low [] o i j d l h = absurd (omega arith)
ends_rise low (r ∷ rs) o zero zero d l h = omega arith
ends_rise low (r ∷ rs) o zero (suc j) d l h = let k : j < length rs = omega arith in ends_above (end_of r) rs j d (rest_ascends low r rs o) k
ends_rise low (r ∷ rs) o (suc i) zero d l h = absurd (omega arith)
ends_rise low (r ∷ rs) o (suc i) (suc j) d l h =
    let k : j < length rs = omega arith in
    let m : i ≤ j = omega arith in
    ends_rise (end_of r) rs (rest_ascends low r rs o) i j d m k
