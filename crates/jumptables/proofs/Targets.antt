-- The known targets for the numbers below one.
use Rattle.std.proofs.Common.{◌≡◌, ℕ, zero, suc, ◌<◌, ◌≤◌, List, [], Option, None, Some, sym, ◌∙◌, ap, subst, arith, inl, inr}
use Rattle.std.specs.Prelude.{◌⊎◌, option_to_list}
use Rattle.std.specs.List.{All, Contains}
use Rattle.std.specs.List.Sorted.{IsStrictlySortedBy}
use Rattle.std.specs.Ordering.{nat_cmp}
use Rattle.std.proofs.lemmas.Bool.{cases_lt}
use Rattle.std.proofs.lemmas.List.Elements.{Contains-append_left, Contains-append_right, Contains-append_cases, Contains-push, Contains-push_cases, All-contains}
use Rattle.points.specs.PartialRuns.{PartialEnd}
use Rattle.points.specs.Tables.{AreTargets}
use Rattle.jumptables.specs.Search.{known_below}

no-member : (a : ℕ) → Contains [] a → ⊥
no-member a c = let lt = c.1 in omega (arith, lt)

from-option : (o : Option ℕ) (a : ℕ) → Contains (option_to_list o) a → o ≡ Some a
from-option None a c = absurd (no-member a c)
from-option (Some v) a c = by (Contains-push_cases [] v a c)
  where
    by : Contains [] a ⊎ (v ≡ a) → Some v ≡ Some a
    by (inl d) = absurd (no-member a d)
    by (inr e) = ap Some e

in-option : (o : Option ℕ) (a : ℕ) → o ≡ Some a → Contains (option_to_list o) a
in-option o a e = subst (λ p. Contains (option_to_list p) a) (sym e) (Contains-push [] a)

module _ (f : ℕ → PartialEnd) where
  -- an address is the target for a number below n
  abbrev IsFrom : ℕ → ℕ → Type 0
  IsFrom n a = (x : ℕ) × (x < n) × ((f x).target ≡ Some a)

  from-next : (n a : ℕ) → (Contains (known_below f n) a → IsFrom n a) → Contains (known_below f n) a ⊎ Contains (option_to_list ((f n).target)) a → IsFrom (suc n) a
  from-next n a h (inl c) = let r = h c in (r.0, omega (arith, r.1), r.2)
  from-next n a h (inr c) = (n, omega arith, from-option ((f n).target) a c)

  known-from : (n a : ℕ) → Contains (known_below f n) a → IsFrom n a
  known-from zero a c = absurd (no-member a c)
  known-from (suc n) a c = from-next n a (known-from n a) (Contains-append_cases (known_below f n) (option_to_list ((f n).target)) a c)

  known-next : (n x a : ℕ) → (x < n → Contains (known_below f n) a) → x < suc n → (f x).target ≡ Some a → (x < n) ⊎ (n ≤ x) → Contains (known_below f (suc n)) a
  known-next n x a h lt e (inl l) = Contains-append_left (known_below f n) (option_to_list ((f n).target)) a (h l)
  known-next n x a h lt e (inr l) = let same : n ≡ x = omega arith in Contains-append_right (known_below f n) (option_to_list ((f n).target)) a (in-option ((f n).target) a (ap (λ k. (f k).target) same ∙ e))

  all-known : (n x a : ℕ) → x < n → (f x).target ≡ Some a → Contains (known_below f n) a
  all-known zero x a lt e = absurd (omega arith)
  all-known (suc n) x a lt e = known-next n x a (λ l. all-known n x a l e) lt e (cases_lt x n)

  pub targets-are : (n : ℕ) (xs ys : List ℕ) → xs ≡ known_below f n → All (Contains xs) ys → All (Contains ys) xs → IsStrictlySortedBy nat_cmp ys → AreTargets f n ys
  targets-are n xs ys e only whole r = record {
    rises = r;
    sound = λ a c. known-from n a (subst (λ l. Contains l a) e (All-contains (Contains xs) ys a only c));
    whole = λ x a lt q. All-contains (Contains ys) xs a whole (subst (λ l. Contains l a) (sym e) (all-known n x a lt q));
  }
