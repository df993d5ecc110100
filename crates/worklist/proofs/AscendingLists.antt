-- Lists that ascend.
use Rattle.std.proofs.Common.{◌++◌, subst, ◌≡◌, ℕ, ◌+◌, ◌≤◌, Bool, true, false, List, [], ◌∷◌, length, get_or, refl, sym, ◌∙◌, ap, arith, true≢false}
use Rattle.std.specs.Cmp.{IsTotalOrder, IsEquivalence}
use Rattle.std.specs.Ordering.{is_lt, is_eq, ordering_reverse}
use Rattle.std.specs.declared.cmp.Ordering.{Ordering}
use Rattle.std.specs.declared.cmp.Ordering.TheVariants.{Less, Equal, Greater}
use Rattle.std.specs.List.{All, Contains, IsDistinct, dedup}
use Rattle.std.specs.List.Sorted.{IsStrictlySortedBy, IsSorted, IsPermutation}
use Rattle.std.proofs.lemmas.Map.Keys.{apart_from_distinct, sorted_from_all_adjacent, IsDistinct-IsPermutation}
use Rattle.std.proofs.lemmas.Map.Made.{length-le_from_is_member, is_member-Decides}
use Rattle.std.proofs.lemmas.List.Elements.{All-contains, All-contains_itself, All-weaker}
use Rattle.std.proofs.lemmas.List.Kept.{Contains-dedup, Contains-from_dedup}
use Rattle.std.proofs.lemmas.List.Sorted.{Contains-permutation, IsPermutation-sym}
use Rattle.worklist.specs.Closures.{AreMore, IsExtended}

-- each member of the one is one of the other
pub all_members : {T : Type 0} (xs ys : List T) → ((x : T) → Contains xs x → Contains ys x) → All (Contains ys) xs
all_members xs ys h = All-weaker (Contains xs) (Contains ys) h xs (All-contains_itself xs)

module _ {T : Type 0} (eq : T → T → Bool) (cmp : T → T → Ordering) (laws : IsEquivalence eq) (total : IsTotalOrder cmp) (ties : (x y : T) → eq x y ≡ is_eq (cmp x y)) where
  less : (a b : T) (r : Ordering) → cmp a b ≡ r → is_lt (cmp b a) ≡ false → eq a b ≡ false → cmp a b ≡ Less
  less a b Less e not apart = e
  less a b Equal e not apart = absurd (true≢false (sym (ties a b ∙ ap is_eq e) ∙ apart))
  less a b Greater e not apart = absurd (true≢false (sym (ap is_lt (total.antisymm b a ∙ ap ordering_reverse e)) ∙ not))

  ascends : (xs ys : List T) (d : T) → IsDistinct eq xs → IsPermutation xs ys → IsSorted cmp ys → IsStrictlySortedBy cmp ys
  ascends xs ys d each p up =
      let once = IsDistinct-IsPermutation eq laws.symm xs ys p each in
      sorted_from_all_adjacent total ys d (λ k h. less (get_or ys k d) (get_or ys (k + 1) d) (cmp (get_or ys k d) (get_or ys (k + 1) d)) refl (up k d (omega arith) h) (apart_from_distinct eq ys k (k + 1) d once (omega arith) h))

  -- different items, sorted
  pub distinct_ascend : (xs ys : List T) → IsDistinct eq xs → IsPermutation xs ys → IsSorted cmp ys → IsStrictlySortedBy cmp ys
  unfolding IsStrictlySortedBy
  distinct_ascend xs [] each p up = tt
  distinct_ascend xs (y ∷ ys) each p up = ascends xs (y ∷ ys) y each p up

module _ {T : Type 0} (eq : T → T → Bool) (laws : IsEquivalence eq) (same : (x y : T) → eq x y ≡ true → x ≡ y) where
  -- where all are within the limit there are not more
  pub no_more : (P : T → Type 0) (xs : List T) (limit : ℕ) → ((x : T) → P x → Contains xs x) → length xs ≤ limit → AreMore eq limit P → ⊥
  no_more P xs limit all within m =
      let decides = is_member-Decides {eq = eq} (λ a b. (same a b, λ e. ap (eq a) (sym e) ∙ laws.refl a)) in
      let short = length-le_from_is_member laws m.some xs m.distinct (λ q h. (decides xs q).1 (all q (All-contains P m.some q m.all ((decides m.some q).0 h)))) in
      omega (arith, short, within, m.more)

  -- what is left behind a sort and a dedup has the same members
  pub only_dedup : (xs copy up ys : List T) → copy ≡ xs → IsPermutation copy up → ys ≡ dedup eq up → All (Contains xs) ys
  only_dedup xs copy up ys e p d = all_members ys xs (λ x c. subst (λ l. Contains l x) e (Contains-permutation up copy x (IsPermutation-sym copy up p) (Contains-from_dedup eq up x (subst (λ l. Contains l x) d c))))

  pub whole_dedup : (xs copy up ys : List T) → copy ≡ xs → IsPermutation copy up → ys ≡ dedup eq up → All (Contains ys) xs
  whole_dedup xs copy up ys e p d = all_members xs ys (λ x c. subst (λ l. Contains l x) (sym d) (Contains-dedup laws same up x (Contains-permutation copy up x p (subst (λ l. Contains l x) (sym e) c))))

-- a set that was filled with a list, and sorted, has the same members
module _ {T : Type 0} (xs none keys up : List T) (perm : IsPermutation keys up) where
  pub only_sorted : none ≡ [] → IsExtended xs none keys → All (Contains xs) up
  only_sorted empty p = all_members up xs (λ x c. All-contains (Contains xs) p.added x p.among (subst (λ l. Contains l x) (p.is ∙ ap (λ l. l ++ p.added) empty) (Contains-permutation up keys x (IsPermutation-sym keys up perm) c)))

  pub whole_sorted : All (Contains keys) xs → All (Contains up) xs
  whole_sorted all = all_members xs up (λ x c. Contains-permutation keys up x perm (All-contains (Contains keys) xs x all c))
