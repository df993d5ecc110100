-- The known targets for the numbers below one, put in order one after another.
use Rattle.std.proofs.Common.{◌≡◌, ℕ, zero, suc, ◌<◌, ◌≤◌, List, [], ◌∷◌, Option, None, Some, refl, sym, ◌∙◌, ap, subst, arith, inl, inr}
use Rattle.std.specs.Prelude.{◌⊎◌}
use Rattle.std.specs.BTreeSet.{insert_key}
use Rattle.std.specs.Cmp.{nat_cmp_total}
use Rattle.std.specs.List.{Contains}
use Rattle.std.specs.List.Sorted.{IsStrictlySortedBy}
use Rattle.std.specs.Ordering.{nat_cmp, ordering_reverse, match_ordering}
use Rattle.std.specs.declared.cmp.Ordering.{Ordering}
use Rattle.std.specs.declared.cmp.Ordering.TheVariants.{Less, Equal, Greater}
use Rattle.std.proofs.lemmas.Bool.{cases_lt}
use Rattle.std.proofs.lemmas.Cmp.{ranked}
use Rattle.std.proofs.lemmas.List.Elements.{All-from_recursion, recursion_from_All, All-weaker, All-contains, All-contains_itself}
use Rattle.std.proofs.lemmas.Map.Views.{All-insert_key}
use Rattle.worklist.proofs.Members.{no_member, head_member, tail_member, member_cases}
use Rattle.points.specs.PartialRuns.{PartialEnd}
use Rattle.points.specs.Tables.{AreTargets}

abbrev Rises : List ℕ → Type 0
Rises xs = IsStrictlySortedBy nat_cmp xs

abbrev put : ℕ → List ℕ → List ℕ
put k xs = insert_key nat_cmp xs k

nothing-rises : Rises []
unfolding IsStrictlySortedBy
nothing-rises = tt

put-rises : (k : ℕ) (xs : List ℕ) → Rises xs → Rises (put k xs)
unfolding IsStrictlySortedBy
put-rises k [] s = (tt, tt)
put-rises k (x ∷ xs) s = by (nat_cmp k x) refl (put-rises k xs s.1)
  where
    by : (r : Ordering) → nat_cmp k x ≡ r → Rises (put k xs) → Rises (match_ordering r (k ∷ x ∷ xs) (x ∷ xs) (x ∷ put k xs))
    by Less e h = ((e, recursion_from_All (λ z. nat_cmp k z ≡ Less) xs (All-weaker (λ z. nat_cmp x z ≡ Less) (λ z. nat_cmp k z ≡ Less) (λ z. nat_cmp_total.trans k x z e) xs (All-from_recursion (λ z. nat_cmp x z ≡ Less) xs s.0))), s)
    by Equal e h = s
    by Greater e h = (recursion_from_All (λ z. nat_cmp x z ≡ Less) (put k xs) (All-insert_key nat_cmp k (λ z. nat_cmp x z ≡ Less) xs (All-from_recursion (λ z. nat_cmp x z ≡ Less) xs s.0) (nat_cmp_total.antisymm x k ∙ ap ordering_reverse e)), h)

-- what was put is there, and all that was there
put-there : (k : ℕ) (xs : List ℕ) → Contains (put k xs) k
put-there k [] = head_member k []
put-there k (x ∷ xs) = by (nat_cmp k x) refl (put-there k xs)
  where
    by : (r : Ordering) → nat_cmp k x ≡ r → Contains (put k xs) k → Contains (match_ordering r (k ∷ x ∷ xs) (x ∷ xs) (x ∷ put k xs)) k
    by Less e h = head_member k (x ∷ xs)
    by Equal e h = let same : k ≡ x = ranked k x Equal (sym e) in subst (λ y. Contains (x ∷ xs) y) (sym same) (head_member x xs)
    by Greater e h = tail_member x k (put k xs) h

put-keeps : (k y : ℕ) (xs : List ℕ) → Contains xs y → Contains (put k xs) y
put-keeps k y [] c = absurd (no_member y c)
put-keeps k y (x ∷ xs) c = by (nat_cmp k x) (put-keeps k y xs)
  where
    by : (r : Ordering) → (Contains xs y → Contains (put k xs) y) → Contains (match_ordering r (k ∷ x ∷ xs) (x ∷ xs) (x ∷ put k xs)) y
    by Less h = tail_member k y (x ∷ xs) c
    by Equal h = c
    by Greater h = among (member_cases x y xs c)
      where
        among : (x ≡ y) ⊎ Contains xs y → Contains (x ∷ put k xs) y
        among (inl e) = subst (λ z. Contains (x ∷ put k xs) z) e (head_member x (put k xs))
        among (inr d) = tail_member x y (put k xs) (h d)

put-only : (k y : ℕ) (xs : List ℕ) → Contains (put k xs) y → (y ≡ k) ⊎ Contains xs y
put-only k y xs c =
    All-contains (λ z. (z ≡ k) ⊎ Contains xs z) (put k xs) y
    (All-insert_key nat_cmp k (λ z. (z ≡ k) ⊎ Contains xs z) xs (All-weaker (Contains xs) (λ z. (z ≡ k) ⊎ Contains xs z) (λ z d. inr d) xs (All-contains_itself xs)) (inl refl)) c

-- a known target is put
abbrev with-target : Option ℕ → List ℕ → List ℕ
with-target None xs = xs
with-target (Some a) xs = put a xs

with-target-rises : (o : Option ℕ) (xs : List ℕ) → Rises xs → Rises (with-target o xs)
with-target-rises None xs s = s
with-target-rises (Some a) xs s = put-rises a xs s

with-target-only : (o : Option ℕ) (xs : List ℕ) (y : ℕ) → Contains (with-target o xs) y → (o ≡ Some y) ⊎ Contains xs y
with-target-only None xs y c = inr c
with-target-only (Some a) xs y c = by (put-only a y xs c)
  where
    by : (y ≡ a) ⊎ Contains xs y → (Some a ≡ Some y) ⊎ Contains xs y
    by (inl e) = inl (ap Some (sym e))
    by (inr d) = inr d

with-target-keeps : (o : Option ℕ) (xs : List ℕ) (y : ℕ) → Contains xs y → Contains (with-target o xs) y
with-target-keeps None xs y c = c
with-target-keeps (Some a) xs y c = put-keeps a y xs c

with-target-there : (o : Option ℕ) (xs : List ℕ) (y : ℕ) → o ≡ Some y → Contains (with-target o xs) y
with-target-there None xs y e = absurd (cc)
with-target-there (Some a) xs y e = let same : a ≡ y = cc in subst (λ z. Contains (put a xs) z) same (put-there a xs)

abbrev pub risen : (ℕ → PartialEnd) → ℕ → List ℕ
risen f zero = []
risen f (suc n) = with-target ((f n).target) (risen f n)

next-targets : (f : ℕ → PartialEnd) (n : ℕ) → AreTargets f n (risen f n) → AreTargets f (suc n) (risen f (suc n))
next-targets f n h = record {
  rises = with-target-rises ((f n).target) (risen f n) h.rises;
  sound = λ a c. from a (with-target-only ((f n).target) (risen f n) a c);
  whole = λ x a lt e. to x a lt e (cases_lt x n);
}
  where
    from : (a : ℕ) → ((f n).target ≡ Some a) ⊎ Contains (risen f n) a → (x : ℕ) × (x < suc n) × ((f x).target ≡ Some a)
    from a (inl e) = (n, omega arith, e)
    from a (inr c) = let r = h.sound a c in (r.0, omega (arith, r.1), r.2)

    to : (x a : ℕ) → x < suc n → (f x).target ≡ Some a → (x < n) ⊎ (n ≤ x) → Contains (risen f (suc n)) a
    to x a lt e (inl l) = with-target-keeps ((f n).target) (risen f n) a (h.whole x a l e)
    to x a lt e (inr l) = let same : n ≡ x = omega (arith, lt, l) in with-target-there ((f n).target) (risen f n) a (ap (λ k. (f k).target) same ∙ e)

pub risen-are : (f : ℕ → PartialEnd) (n : ℕ) → AreTargets f n (risen f n)
risen-are f zero = record { rises = nothing-rises; sound = λ a c. absurd (no_member a c); whole = λ x a lt e. absurd (omega (arith, lt)) }
risen-are f (suc n) = next-targets f n (risen-are f n)
