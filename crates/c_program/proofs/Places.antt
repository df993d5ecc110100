-- The place of a number among the ascending keys of a list.
use Rattle.std.proofs.Common.{◌≡◌, ◌≢◌, ℕ, ◌<◌, ◌≤◌, List, length, get_or, arith, map, true, false, Option, Some, None, refl, sym, ap, ⊎_elim}
use Rattle.std.specs.Prelude.{slice_get}
use Rattle.std.specs.List.{All, Contains}
use Rattle.std.specs.List.Sorted.{IsNonDecreasingBy, IsPartitionPoint}
use Rattle.std.proofs.lemmas.List.Elements.{All-contains, All-map}
use Rattle.std.proofs.lemmas.Option.{slice_get-get_or, get_or_from_slice_get, slice_get_within}
use Rattle.std.proofs.lemmas.Bool.{ltb-true, ltb-false, cases_lt}
use lib.Dec.{ltb}

-- keys before a place are below a number, and those from there on are not
pub record IsPlace {X : Type 0} (key : X → ℕ) (xs : List X) (a i : ℕ) : Type 0 where
  pub below : (k : ℕ) (d : X) → k < i → k < length xs → key (get_or xs k d) < a
  pub above : (k : ℕ) (d : X) → i ≤ k → k < length xs → a ≤ key (get_or xs k d)

pub is_place : {X : Type 0} (key : X → ℕ) (xs : List X) (a i : ℕ) → IsPartitionPoint (λ y. ltb (key y) a ≡ true) (λ y. ltb (key y) a ≡ false) xs i → IsPlace key xs a i
is_place key xs a i h = record {
  below = λ k d lt within. ltb-true _ _ (h.0 k d (omega arith) lt);
  above = λ k d le within. ltb-false _ _ (h.1 k d le within);
}

module _ {X : Type 0} (key : X → ℕ) (xs : List X) (a i : ℕ) (place : IsPlace key xs a i) where
  -- past the end no key is the number
  pub found-none : None ≡ slice_get xs i → All (λ x. key x ≢ a) xs
  found-none none k d within same = ⊎_elim
      (λ lt. let low = place.below k d lt within in omega arith)
      (λ le. let lt : i < length xs = omega arith in cc (none, slice_get-get_or xs i d lt))
      (cases_lt k i)

  -- nor where the key there is another
  pub found-other : IsNonDecreasingBy key xs → (x : X) → Some x ≡ slice_get xs i → (key x ≡ a → ⊥) → All (λ x. key x ≢ a) xs
  found-other rises x there other k d within same = ⊎_elim
      (λ lt. let low = place.below k d lt within in omega arith)
      (λ le.
      let inside = slice_get_within xs i x (sym there) in
      let at = ap key (get_or_from_slice_get xs i x d (sym there)) in
      let from = place.above i d (omega arith) inside in
      let up = rises i k d le within in
      other (omega (arith, at, from, up, same)))
      (cases_lt k i)

-- a key that is among the keys is that of some element
pub no-key : {X : Type 0} (key : X → ℕ) (xs : List X) (a : ℕ) → Contains (map key xs) a → All (λ x. key x ≢ a) xs → ⊥
no-key key xs a there none = All-contains (λ y. y ≢ a) (map key xs) a (All-map (λ y. y ≢ a) key xs none) there refl

-- nothing, where each thing is denied
pub none-unless : (o : Option ℕ) → ((s : ℕ) → o ≡ Some s → ⊥) → o ≡ None
none-unless None h = refl
none-unless (Some s) h = absurd (h s refl)
