-- Searches in lists that ascend, by any order.
use Rattle.std.proofs.Common.{◌≡◌, ℕ, ◌<◌, ◌≤◌, List, length, get_or, Option, Some, None, Result, Ok, Err, refl, sym, ap, ◌∙◌, subst, arith, inl, inr, true≢false}
use Rattle.std.specs.Prelude.{◌⊎◌, ◌↔◌, Bool, true, is_some, IsTrue, slice_get}
use Rattle.std.specs.Cmp.{IsTotalOrder}
use Rattle.std.specs.Ordering.{is_eq, ordering_reverse, ordering_index}
use Rattle.std.specs.declared.cmp.Ordering.{Ordering}
use Rattle.std.specs.declared.cmp.Ordering.TheVariants.{Less, Equal, Greater}
use Rattle.std.specs.List.{Contains, HoldsAt}
use Rattle.std.specs.List.Sorted.{IsStrictlySortedBy, IsBinarySearchResult, IsNonDecreasingBy, IsPartitionPoint, IsSearchInRange}
use Rattle.std.proofs.lemmas.Map.Keys.{Less-from_sorted}
use Rattle.std.proofs.lemmas.Option.{slice_get-get_or, slice_get_within, get_or_from_slice_get}
use Rattle.graph_control.specs.Finding.{IsFound, IsPlace}

module _ {T : Type 0} (eq : T → T → Bool) (cmp : T → T → Ordering) (total : IsTotalOrder cmp) (ties : (x y : T) → eq x y ≡ is_eq (cmp x y)) (same : (x y : T) → eq x y ≡ true → x ≡ y) where
  one : (x y : T) → cmp x y ≡ Equal → x ≡ y
  one x y e = same x y (ties x y ∙ ap is_eq e)

  itself : (x : T) → cmp x x ≡ Equal
  itself x = by (cmp x x) (total.antisymm x x)
    where
      by : (r : Ordering) → r ≡ ordering_reverse r → r ≡ Equal
      by Less e = let no : ⊥ = cc in absurd no
      by Equal e = refl
      by Greater e = let no : ⊥ = cc in absurd no

  turned : (x y : T) (r : Ordering) → cmp x y ≡ r → cmp y x ≡ ordering_reverse r
  turned x y r e = total.antisymm y x ∙ ap ordering_reverse e

  -- where a is below b, x does not come to stand higher above b
  higher : (a b x : T) (r : Ordering) → cmp a x ≡ r → cmp a b ≡ Less → ordering_index r ≤ ordering_index (cmp b x)
  higher a b x Less e less = omega arith
  higher a b x Equal e less =
      let above : cmp x b ≡ Less = sym (total.congr a x b e) ∙ less in
      let is : cmp b x ≡ Greater = turned x b Less above in
      rw is (omega arith)
  higher a b x Greater e less =
      let below : cmp x a ≡ Less = turned a x Greater e in
      let is : cmp b x ≡ Greater = turned x b Less (total.trans x a b below less) in
      rw is (omega arith)

  rises : (xs : List T) (x : T) → IsStrictlySortedBy cmp xs → IsNonDecreasingBy (λ y. ordering_index (cmp y x)) xs
  rises xs x sorted i j d le lt = by (grind arith)
    where
      by : (i < j) ⊎ (i ≡ j) → ordering_index (cmp (get_or xs i d) x) ≤ ordering_index (cmp (get_or xs j d) x)
      by (inl less) = higher (get_or xs i d) (get_or xs j d) x (cmp (get_or xs i d) x) refl (Less-from_sorted cmp xs i j d sorted less lt)
      by (inr e) = let z = ap (λ k. ordering_index (cmp (get_or xs k d) x)) e in omega (arith, z)

  at_none : (xs : List T) (x : T) (i : ℕ) → IsPartitionPoint (λ y. cmp y x ≡ Less) (λ y. cmp y x ≡ Greater) xs i → Contains xs x → ⊥
  at_none xs x i p c = by (grind arith)
    where
      is : cmp (get_or xs c.0 x) x ≡ Equal
      is = ap (λ y. cmp y x) c.2 ∙ itself x

      by : (c.0 < i) ⊎ (i ≤ c.0) → ⊥
      by (inl less) = let e : Less ≡ Equal = sym (p.0 c.0 x (omega arith) less) ∙ is in cc
      by (inr more) = let e : Greater ≡ Equal = sym (p.1 c.0 x more c.1) ∙ is in cc

  pub found_ok : (xs : List T) (x : T) (k : ℕ) (r : Result ℕ ℕ) → IsSearchInRange r (length xs) → IsBinarySearchResult (λ y. cmp y x) xs r → r ≡ Ok k → IsFound cmp xs x (Some k)
  found_ok xs x k r within at e =
      let lt : k < length xs = subst (λ q. IsSearchInRange q (length xs)) e within in
      let h : HoldsAt (λ y. cmp y x ≡ Equal) xs k = subst (IsBinarySearchResult (λ y. cmp y x) xs) e at in
      record {
        found = λ j o.
            let same_place : k ≡ j = cc in
            subst (λ i. slice_get xs i ≡ Some x) same_place (slice_get-get_or xs k x lt ∙ ap Some (one (get_or xs k x) x (h x)));
        missing = λ s o. let no : ⊥ = cc in absurd no;
      }

  pub found_err : (xs : List T) (x : T) (i : ℕ) (r : Result ℕ ℕ) → IsBinarySearchResult (λ y. cmp y x) xs r → r ≡ Err i → IsFound cmp xs x None
  found_err xs x i r at e =
      let h = subst (IsBinarySearchResult (λ y. cmp y x) xs) e at in
      record {
        found = λ j o. let no : ⊥ = cc in absurd no;
        missing = λ s o c. at_none xs x i (h (rises xs x s)) c;
      }

-- what was found is a place, and so is anything where nothing was
pub place_found : {T : Type 0} (cmp : T → T → Ordering) (xs : List T) (x : T) (k : ℕ) (r : Option ℕ) → IsFound cmp xs x r → r ≡ Some k → IsPlace cmp xs x k
place_found cmp xs x k r f e = record { at = λ s c. f.found k e }

pub place_missing : {T : Type 0} (cmp : T → T → Ordering) (xs : List T) (x : T) (k : ℕ) (r : Option ℕ) → IsFound cmp xs x r → r ≡ None → IsPlace cmp xs x k
place_missing cmp xs x k r f e = record { at = λ s c. absurd (f.missing s e c) }

-- it is there exactly where it was found
pub is_found : {T : Type 0} (cmp : T → T → Ordering) (xs : List T) (x : T) (r : Option ℕ) → IsFound cmp xs x r → IsStrictlySortedBy cmp xs → IsTrue (is_some r) ↔ Contains xs x
is_found cmp xs x None f s = (λ e. absurd (true≢false (sym e)), λ c. absurd (f.missing s refl c))
is_found cmp xs x (Some k) f s = (λ e. (k, slice_get_within xs k x (f.found k refl), get_or_from_slice_get xs k x x (f.found k refl)), λ c. refl)
