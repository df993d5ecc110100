-- How many pairs of a list share an address: the same in every order.
use Rattle.std.proofs.Common.{◌≡◌, ℕ, zero, suc, ◌+◌, ◌*◌, Bool, true, false, cond, ◌&&◌, ◌||◌, not, List, [], ◌∷◌, refl, sym, ap, ◌∙◌, arith, max, min, zero-add}
use Rattle.std.specs.Prelude.{nat_lt, ◌==◌, sum_by}
use Rattle.std.specs.List.{list_any}
use Rattle.std.proofs.lemmas.Bool.{ne_eqb}
use Rattle.std.specs.List.Sorted.{IsPermutation}
use Rattle.std.proofs.lemmas.List.Sorted.{sum_by-IsPermutation}
use Rattle.std.proofs.lemmas.List.Sums.{sum_by-cons}
use Rattle.c_lang.specs.StaticRules.{Range, share_byte, no_two}

abbrev one : Bool → ℕ
one b = cond b 1 0

-- how many of these share an address with a range
abbrev met : Range → List Range → ℕ
met r ss = sum_by (λ s. one (share_byte r s)) ss

abbrev pairs : List Range → List Range → ℕ
pairs ss rs = sum_by (λ r. met r ss) rs

abbrev selves : List Range → ℕ
selves rs = sum_by (λ r. one (share_byte r r)) rs

-- how many share one with a later one
abbrev crossed : List Range → ℕ
crossed [] = 0
crossed (r ∷ rs) = met r rs + crossed rs

same_max : (a b : ℕ) → max a b ≡ max b a
same_max a b = omega arith

same_min : (a b : ℕ) → min a b ≡ min b a
same_min a b = omega arith

same_share : (r s : Range) → share_byte r s ≡ share_byte s r
same_share r s = (λ i. nat_lt (same_max r.base s.base i) (same_min (r.base + r.len) (s.base + s.len) i))

-- one more to meet
more_met : (x : Range) (ss rs : List Range) → pairs (x ∷ ss) rs ≡ met x rs + pairs ss rs
more_met x ss [] = refl
more_met x ss (r ∷ rs) =
    omega
    (arith, more_met x ss rs, ap one (same_share r x), sum_by-cons (λ q. met q (x ∷ ss)) r rs, sum_by-cons (λ s. one (share_byte r s)) x ss, sum_by-cons (λ s. one (share_byte x s)) r rs, sum_by-cons (λ q. met q ss) r rs)

all_pairs : (rs : List Range) → pairs rs rs ≡ selves rs + 2 * crossed rs
all_pairs [] = refl
all_pairs (r ∷ rs) =
    omega
    (arith, more_met r rs rs, all_pairs rs, sum_by-cons (λ q. met q (r ∷ rs)) r rs, sum_by-cons (λ s. one (share_byte r s)) r rs, sum_by-cons (λ q. one (share_byte q q)) r rs)

-- the sums by two functions with the same values
same_sum : {A : Type 0} (f g : A → ℕ) (xs : List A) → ((x : A) → f x ≡ g x) → sum_by f xs ≡ sum_by g xs
same_sum f g [] h = refl
same_sum f g (x ∷ xs) h = omega (arith, h x, same_sum f g xs h, sum_by-cons f x xs, sum_by-cons g x xs)

module _ (xs ys : List Range) (p : IsPermutation xs ys) where
  same_pairs : pairs ys ys ≡ pairs xs xs
  same_pairs = same_sum (λ r. met r ys) (λ r. met r xs) ys (λ r. sum_by-IsPermutation (λ s. one (share_byte r s)) xs ys p) ∙ sum_by-IsPermutation (λ r. met r xs) xs ys p

  same_selves : selves ys ≡ selves xs
  same_selves = sum_by-IsPermutation (λ r. one (share_byte r r)) xs ys p

  same_crossed : crossed ys ≡ crossed xs
  same_crossed = omega (arith, same_pairs, same_selves, all_pairs xs, all_pairs ys)

some_not : (m : ℕ) → not (1 + m == 0) ≡ true
some_not m = ap not (ne_eqb (1 + m) 0 (λ z. omega (arith, z)))

none_met : (r : Range) (ss : List Range) → list_any (share_byte r) ss ≡ not (met r ss == 0)
none_met r [] = refl
none_met r (s ∷ ss) = by (share_byte r s) (none_met r ss) ∙ ap (λ n. not (n == 0)) (sym (sum_by-cons (λ q. one (share_byte r q)) s ss))
  where
    by : (b : Bool) → list_any (share_byte r) ss ≡ not (met r ss == 0) → (b || list_any (share_byte r) ss) ≡ not (one b + met r ss == 0)
    by true e = sym (some_not (met r ss))
    by false e = e ∙ ap (λ n. not (n == 0)) (sym (zero-add (met r ss)))

both_none : (m n : ℕ) → (not (not (m == 0)) && (n == 0)) ≡ (m + n == 0)
both_none zero n = ap (λ k. k == 0) (sym (zero-add n))
both_none (suc m) n = rw (ne_eqb (suc m) 0 (λ z. omega (arith, z)), ne_eqb (suc m + n) 0 (λ z. omega (arith, z))) refl

apart_is : (rs : List Range) → no_two share_byte rs ≡ (crossed rs == 0)
apart_is [] = refl
apart_is (r ∷ rs) = rw (none_met r rs, apart_is rs) (both_none (met r rs) (crossed rs))

-- no two share an address, in whatever order they stand
pub same_apart : (xs ys : List Range) → IsPermutation xs ys → no_two share_byte ys ≡ no_two share_byte xs
same_apart xs ys p = apart_is ys ∙ ap (λ n. n == 0) (same_crossed xs ys p) ∙ sym (apart_is xs)
