-- Lists turned round, item by item.
use Rattle.std.proofs.Common.{◌≡◌, ◌≢◌, ℕ, ◌+◌, ◌<◌, ◌≤◌, List, [], ◌∷◌, ◌++◌, length, get_or, set, take, Some, refl, sym, ◌∙◌, ap, subst, arith, inl, inr, zero, suc, get_or-set_other, get_or-set_same, length-append}
use Rattle.std.specs.Prelude.{◌⊎◌, ◌↔◌, replicate, Result, Ok, Err, MatchResult, slice_get}
use Rattle.std.specs.List.{Contains}
use Rattle.std.specs.List.Sorted.{IsStrictlySortedBy, IsBinarySearchResult}
use Rattle.std.specs.Ordering.{nat_cmp}
use Rattle.std.proofs.lemmas.List.Elements.{Contains-append_left, Contains-append_right, Contains-append_cases}
use Rattle.std.proofs.lemmas.List.Sorted.{searched}
use Rattle.std.proofs.lemmas.Map.Keys.{below_from_sorted}
use Rattle.std.proofs.lemmas.Option.{slice_get-get_or, slice_get_within, get_or_from_slice_get}
use Rattle.std.proofs.lemmas.List.{take_more, length-take-le}
use Rattle.params.specs.Leading.{row, AreRows, AreAdded}
use Rattle.params.proofs.Members.{none-in, only-in, first-in}

same-or : (j k : ℕ) → (j ≡ k) ⊎ (j ≢ k)
same-or j k = grind arith

pub length-set : (rows : List (List ℕ)) (k : ℕ) (r : List ℕ) → length (set rows k r) ≡ length rows
length-set [] k r = refl
length-set (x ∷ xs) zero r = refl
length-set (x ∷ xs) (suc k) r = let z = length-set xs k r in omega (arith, z)

-- ---- keys

never-above : (xs : List ℕ) → IsStrictlySortedBy nat_cmp xs → (i j : ℕ) → i ≤ j → j < length xs → get_or xs i 0 ≤ get_or xs j 0
never-above xs s i j le lt = by (grind arith)
  where
    by : (i < j) ⊎ (i ≡ j) → get_or xs i 0 ≤ get_or xs j 0
    by (inl less) = let z = below_from_sorted xs i j 0 s less lt in omega (arith, z)
    by (inr e) = let z = ap (λ k. get_or xs k 0) e in omega (arith, z)

-- keys that ascend differ
pub same-key : (xs : List ℕ) → IsStrictlySortedBy nat_cmp xs → (i j : ℕ) → i < length xs → j < length xs → get_or xs i 0 ≡ get_or xs j 0 → i ≡ j
same-key xs s i j li lj e = by (grind arith)
  where
    by : (i < j) ⊎ (i ≡ j) ⊎ (j < i) → i ≡ j
    by (inl less) = absurd (let z = below_from_sorted xs i j 0 s less lj in omega (arith, z, e))
    by (inr (inl same)) = same
    by (inr (inr more)) = absurd (let z = below_from_sorted xs j i 0 s more li in omega (arith, z, e))

pub key-found : (xs : List ℕ) (x at : ℕ) (r : Result ℕ ℕ) → IsBinarySearchResult (λ y. nat_cmp y x) xs r → r ≡ Ok at → IsStrictlySortedBy nat_cmp xs → slice_get xs at ≡ Some x
key-found xs x at r is e s =
    let h = subst (λ q. MatchResult q (λ i. (i < length xs) × (get_or xs i 0 ≡ x)) (λ i. (i ≤ length xs) × ((k : ℕ) → k < i → get_or xs k 0 < x) × ((k : ℕ) → i ≤ k → k < length xs → x < get_or xs k 0))) e (searched xs x r is (never-above xs s)) in
    slice_get-get_or xs at 0 h.0 ∙ ap (λ y. Some y) h.1

first-default : (xs : List ℕ) (k d : ℕ) → k < length xs → get_or xs k d ≡ get_or xs k 0
first-default [] k d lt = absurd (omega (arith, lt))
first-default (x ∷ xs) zero d lt = refl
first-default (x ∷ xs) (suc k) d lt = first-default xs k d (omega (arith, lt))

pub key-missing : (xs : List ℕ) (x at : ℕ) (r : Result ℕ ℕ) → IsBinarySearchResult (λ y. nat_cmp y x) xs r → r ≡ Err at → IsStrictlySortedBy nat_cmp xs → Contains xs x → ⊥
key-missing xs x at r is e s c =
    let h = subst (λ q. MatchResult q (λ i. (i < length xs) × (get_or xs i 0 ≡ x)) (λ i. (i ≤ length xs) × ((k : ℕ) → k < i → get_or xs k 0 < x) × ((k : ℕ) → i ≤ k → k < length xs → x < get_or xs k 0))) e (searched xs x r is (never-above xs s)) in
    by h c (grind arith)
  where
    by : (at ≤ length xs) × ((k : ℕ) → k < at → get_or xs k 0 < x) × ((k : ℕ) → at ≤ k → k < length xs → x < get_or xs k 0) → (c : Contains xs x) → (c.0 < at) ⊎ (at ≤ c.0) → ⊥
    by h c (inl less) = let z = h.1 c.0 less in let e = sym (first-default xs c.0 x c.1) ∙ c.2 in omega (arith, z, e)
    by h c (inr more) = let z = h.2 c.0 more c.1 in let e = sym (first-default xs c.0 x c.1) ∙ c.2 in omega (arith, z, e)

-- ---- rows

module _ (keys : List ℕ) (place : ℕ) where
  pub added-nothing : (old : List (List ℕ)) → AreAdded keys [] place old old
  added-nothing old = record { count = refl; exactly = λ j i lt. ((λ c. inl c), (λ s. elim s [ inl c ↦ c | inr p ↦ none-in (get_or keys j 0) p.1 ])) }

  module _ (xs : List ℕ) (x : ℕ) (old mid : List (List ℕ)) (f : AreAdded keys xs place old mid) where
    wider : (j i : ℕ) → Contains (row old j) i ⊎ ((i ≡ place) × Contains xs (get_or keys j 0)) → Contains (row old j) i ⊎ ((i ≡ place) × Contains (xs ++ x ∷ []) (get_or keys j 0))
    wider j i (inl c) = inl c
    wider j i (inr p) = inr (p.0, Contains-append_left xs (x ∷ []) (get_or keys j 0) p.1)

    back-in : (j i : ℕ) → j < length keys → (x ≡ get_or keys j 0 → Contains (row mid j) i) → Contains (row old j) i ⊎ ((i ≡ place) × Contains (xs ++ x ∷ []) (get_or keys j 0)) → Contains (row mid j) i
    back-in j i lt h (inl c) = (f.exactly j i lt).1 (inl c)
    back-in j i lt h (inr p) = elim (Contains-append_cases xs (x ∷ []) (get_or keys j 0) p.1) [ inl c ↦ (f.exactly j i lt).1 (inr (p.0, c)) | inr c ↦ h (only-in x (get_or keys j 0) c) ]

    -- an item that is no key
    pub added-other : (Contains keys x → ⊥) → AreAdded keys (xs ++ x ∷ []) place old mid
    added-other none = record {
      count = f.count;
      exactly = λ j i lt. ((λ c. wider j i ((f.exactly j i lt).0 c)), (λ s. back-in j i lt (λ e. absurd (none (j, lt, first-default keys j x lt ∙ sym e))) s));
    }

    -- an item that is the key at a place
    pub added-key : IsStrictlySortedBy nat_cmp keys → length old ≡ length keys → (at : ℕ) (new : List (List ℕ)) → slice_get keys at ≡ Some x → new ≡ set mid at (row mid at ++ place ∷ []) → AreAdded keys (xs ++ x ∷ []) place old new
    added-key s long at new is e = record {
      count = ap length e ∙ length-set mid at (row mid at ++ place ∷ []) ∙ f.count;
      exactly = λ j i lt. by j i lt (same-or j at);
    }
      where
        within : at < length keys
        within = slice_get_within keys at x is

        key : get_or keys at 0 ≡ x
        key = get_or_from_slice_get keys at x 0 is

        there : row new at ≡ row mid at ++ place ∷ []
        there = ap (λ l. row l at) e ∙ get_or-set_same mid at (row mid at ++ place ∷ []) [] (let c = f.count in omega (arith, within, long, c))

        other : (j : ℕ) → j ≢ at → row new j ≡ row mid j
        other j ne = ap (λ l. row l j) e ∙ get_or-set_other mid at j (row mid at ++ place ∷ []) [] ne

        at-key : (i : ℕ) → Contains (row new at) i ↔ (Contains (row old at) i ⊎ ((i ≡ place) × Contains (xs ++ x ∷ []) (get_or keys at 0)))
        at-key i = (
          (λ c. elim (Contains-append_cases (row mid at) (place ∷ []) i (subst (λ l. Contains l i) there c)) [
            | inl d ↦ wider at i ((f.exactly at i within).0 d)
            | inr d ↦ inr (sym (only-in place i d), Contains-append_right xs (x ∷ []) (get_or keys at 0) (subst (Contains (x ∷ [])) (sym key) (first-in x [])))
          ]),
          (λ s. subst (λ l. Contains l i) (sym there) (elim s [
            | inl d ↦ Contains-append_left (row mid at) (place ∷ []) i ((f.exactly at i within).1 (inl d))
            | inr p ↦ Contains-append_right (row mid at) (place ∷ []) i (subst (Contains (place ∷ [])) (sym p.0) (first-in place []))
          ])),
        )

        by : (j i : ℕ) → j < length keys → (j ≡ at) ⊎ (j ≢ at) → Contains (row new j) i ↔ (Contains (row old j) i ⊎ ((i ≡ place) × Contains (xs ++ x ∷ []) (get_or keys j 0)))
        by j i lt (inl e) = subst (λ k. Contains (row new k) i ↔ (Contains (row old k) i ⊎ ((i ≡ place) × Contains (xs ++ x ∷ []) (get_or keys k 0)))) (sym e) (at-key i)
        by j i lt (inr ne) = (
          (λ c. wider j i ((f.exactly j i lt).0 (subst (λ l. Contains l i) (other j ne) c))),
          (λ s. subst (λ l. Contains l i) (sym (other j ne)) (back-in j i lt (λ q. absurd (ne (same-key keys s' j at lt within (sym q ∙ sym key)))) s)),
        )
          where
            s' : IsStrictlySortedBy nat_cmp keys
            s' = s

-- the item of a loop is one more
pub item-more : (xs : List ℕ) (at x : ℕ) → at < length xs → get_or xs at 0 ≡ x → take at xs ++ x ∷ [] ≡ take (at + 1) xs
item-more xs at x lt is = sym (take_more xs at 0 lt ∙ ap (λ y. take at xs ++ y ∷ []) is)

row-within : (rows : List (List ℕ)) (k q : ℕ) → Contains (row rows k) q → k < length rows
row-within [] k q h = none-in q h
row-within (x ∷ xs) zero q h = omega arith
row-within (x ∷ xs) (suc k) q h = let z = row-within xs k q h in omega (arith, z)

row-before : (xs ys : List (List ℕ)) (k : ℕ) → k < length xs → row (xs ++ ys) k ≡ row xs k
row-before [] ys k lt = absurd (omega (arith, lt))
row-before (x ∷ xs) ys zero lt = refl
row-before (x ∷ xs) ys (suc k) lt = row-before xs ys k (omega (arith, lt))

row-seam : (xs : List (List ℕ)) (y : List ℕ) → row (xs ++ y ∷ []) (length xs) ≡ y
row-seam [] y = refl
row-seam (x ∷ xs) y = row-seam xs y

abbrev empty-rows : ℕ → List (List ℕ)
empty-rows n = replicate n []

long-rows : (n : ℕ) → length (empty-rows n) ≡ n
long-rows zero = refl
long-rows (suc n) = let z = long-rows n in omega (arith, z)

empty-row : (n j : ℕ) → row (empty-rows n) j ≡ []
empty-row zero j = refl
empty-row (suc n) zero = refl
empty-row (suc n) (suc j) = empty-row n j

pub no-rows : (keys : List ℕ) (rows : List (List ℕ)) → rows ≡ replicate (length keys) [] → AreRows keys [] rows
no-rows keys rows e = record {
  count = ap length e ∙ long-rows (length keys);
  exactly = λ j i lt. ((λ c. none-in i (subst (λ l. Contains l i) (ap (λ l. row l j) e ∙ empty-row (length keys) j) c)), (λ c. none-in (get_or keys j 0) c));
}

pub rows-more : (keys : List ℕ) (lists : List (List ℕ)) (list : List ℕ) (old new : List (List ℕ)) → AreRows keys lists old → AreAdded keys list (length lists) old new → AreRows keys (lists ++ list ∷ []) new
rows-more keys lists list old new f g = record {
  count = g.count ∙ f.count;
  exactly = λ j i lt. (
    (λ c. elim ((g.exactly j i lt).0 c) [
      | inl d ↦ let h = (f.exactly j i lt).0 d in subst (λ l. Contains l (get_or keys j 0)) (sym (row-before lists (list ∷ []) i (row-within lists i (get_or keys j 0) h))) h
      | inr p ↦ subst (λ k. Contains (row (lists ++ list ∷ []) k) (get_or keys j 0)) (sym p.0) (subst (λ l. Contains l (get_or keys j 0)) (sym (row-seam lists list)) p.1)
    ]),
    (λ c. (g.exactly j i lt).1 (back j i lt c (three i (length lists)))),
  );
}
  where
    three : (i n : ℕ) → (i < n) ⊎ ((i ≡ n) ⊎ (n < i))
    three i n = grind arith

    back : (j i : ℕ) → j < length keys → Contains (row (lists ++ list ∷ []) i) (get_or keys j 0) → (i < length lists) ⊎ ((i ≡ length lists) ⊎ (length lists < i)) → Contains (row old j) i ⊎ ((i ≡ length lists) × Contains list (get_or keys j 0))
    back j i lt c (inl less) = inl ((f.exactly j i lt).1 (subst (λ l. Contains l (get_or keys j 0)) (row-before lists (list ∷ []) i less) c))
    back j i lt c (inr (inl e)) = inr (e, subst (λ l. Contains l (get_or keys j 0)) (ap (row (lists ++ list ∷ [])) e ∙ row-seam lists list) c)
    back j i lt c (inr (inr more)) = absurd (let z = row-within (lists ++ list ∷ []) i (get_or keys j 0) c in let n = length-append lists (list ∷ []) in omega (arith, z, n, more))

-- the list of a loop is one more
pub rows-next : (keys : List ℕ) (lists : List (List ℕ)) (at : ℕ) (list : List ℕ) (old new : List (List ℕ)) → at < length lists → list ≡ get_or lists at list → AreRows keys (take at lists) old → AreAdded keys list at old new → AreRows keys (take (at + 1) lists) new
rows-next keys lists at list old new lt is f g =
    let n : length (take at lists) ≡ at = length-take-le at lists (omega (arith, lt)) in
    subst (λ l. AreRows keys l new) (sym (take_more lists at list lt ∙ ap (λ y. take at lists ++ y ∷ []) (sym is)))
    (rows-more keys (take at lists) list old new f (subst (λ k. AreAdded keys list k old new) (sym n) g))

-- rows of keys and lists that are the same
pub same-rows : (keys keys' : List ℕ) (lists lists' rows : List (List ℕ)) → keys ≡ keys' → lists ≡ lists' → (IsStrictlySortedBy nat_cmp keys → AreRows keys lists rows) → IsStrictlySortedBy nat_cmp keys' → AreRows keys' lists' rows
same-rows keys keys' lists lists' rows e f h s = subst (λ k. AreRows k lists' rows) e (subst (λ l. AreRows keys l rows) f (h (subst (IsStrictlySortedBy nat_cmp) (sym e) s)))
