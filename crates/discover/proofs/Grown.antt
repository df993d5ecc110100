-- One more place in its body.
use Rattle.std.proofs.Common.{◌≡◌, ℕ, suc, ◌+◌, Bool, true, false, not, cond, List, [], ◌∷◌, ◌++◌, get_or, map, filter, refl, sym, ◌∙◌, ap, subst, arith, true≢false, nat_eq, set, ◌||◌}
use Rattle.std.specs.List.{AllByRecursion, IsDistinct, list_any, position_or_len}
use Rattle.std.proofs.lemmas.List.Elements.{filter-append}
use Rattle.std.proofs.lemmas.List.{map-append, append-nil}
use Rattle.std.proofs.lemmas.Bool.{eqb-true}
use Rattle.std.proofs.lemmas.Map.Keys.{IsDistinct-head, IsDistinct-tail}
use Rattle.rtl_core.specs.declared.point.Point.{Point}
use Rattle.discover.specs.declared.place.Place.{Place}
use Rattle.discover.specs.Parts.{index_in, body_of, bodies_of, with_place}

module _ (points : List Point) (places : List Place) (p : Place) where
  abbrev Old : ℕ → List ℕ
  Old e = body_of points places e

  abbrev New : ℕ → List ℕ
  New e = body_of points (places ++ p ∷ []) e

  abbrev index : ℕ
  index = index_in points p.point

  split : (e : ℕ) → New e ≡ Old e ++ map (λ (x : Place). index_in points x.point) (cond (nat_eq p.entry e) (p ∷ []) [])
  split e = ap (map (λ (x : Place). index_in points x.point)) (filter-append (λ (x : Place). nat_eq x.entry e) places (p ∷ [])) ∙ map-append (λ (x : Place). index_in points x.point) (filter (λ (x : Place). nat_eq x.entry e) places) (cond (nat_eq p.entry e) (p ∷ []) [])

  own : (e : ℕ) → nat_eq p.entry e ≡ true → New e ≡ Old e ++ index ∷ []
  own e is = split e ∙ ap (λ b. Old e ++ map (λ (x : Place). index_in points x.point) (cond b (p ∷ []) [])) is

  other : (e : ℕ) → nat_eq p.entry e ≡ false → New e ≡ Old e
  other e is = split e ∙ ap (λ b. Old e ++ map (λ (x : Place). index_in points x.point) (cond b (p ∷ []) [])) is ∙ append-nil (Old e)

  others : (es : List ℕ) → AllByRecursion (λ e. nat_eq p.entry e ≡ false) es → map Old es ≡ map New es
  others [] h = refl
  others (e ∷ es) h = let a = other e h.0 in let b = others es h.1 in cc

  abbrev at : List ℕ → ℕ
  at es = position_or_len (nat_eq p.entry) es

  abbrev put : List ℕ → ℕ → List (List ℕ)
  put es k = set (map Old es) k (get_or (map Old es) k [] ++ index ∷ [])

  here : (e : ℕ) (es : List ℕ) → nat_eq p.entry e ≡ true → IsDistinct nat_eq (e ∷ es) → put (e ∷ es) (at (e ∷ es)) ≡ map New (e ∷ es)
  here e es is d =
      let z : at (e ∷ es) ≡ 0 = ap (λ b. cond (not b) (1 + at es) 0) is in
      let far = subst (λ n. AllByRecursion (λ q. nat_eq n q ≡ false) es) (sym (eqb-true p.entry e is)) (IsDistinct-head nat_eq e es d) in
      let a = own e is in
      let b = others es far in
      ap (put (e ∷ es)) z ∙ (λ i. sym a i ∷ b i)

  later : (e : ℕ) (es : List ℕ) → nat_eq p.entry e ≡ false → put es (at es) ≡ map New es → put (e ∷ es) (at (e ∷ es)) ≡ map New (e ∷ es)
  later e es is h =
      let z : at (e ∷ es) ≡ 1 + at es = ap (λ b. cond (not b) (1 + at es) 0) is in
      let s : 1 + at es ≡ suc (at es) = omega arith in
      let a = other e is in
      ap (put (e ∷ es)) (z ∙ s) ∙ (λ i. sym a i ∷ h i)

  in_tail : (e : ℕ) (es : List ℕ) → nat_eq p.entry e ≡ false → list_any (nat_eq p.entry) (e ∷ es) ≡ true → list_any (nat_eq p.entry) es ≡ true
  in_tail e es is h = sym (ap (λ b. b || list_any (nat_eq p.entry) es) is) ∙ h

  by : (e : ℕ) (es : List ℕ) (b : Bool) → nat_eq p.entry e ≡ b → IsDistinct nat_eq (e ∷ es) → (nat_eq p.entry e ≡ false → put es (at es) ≡ map New es) → put (e ∷ es) (at (e ∷ es)) ≡ map New (e ∷ es)
  by e es true is d rest = here e es is d
  by e es false is d rest = later e es is (rest is)

  pub grown : (es : List ℕ) → IsDistinct nat_eq es → list_any (nat_eq p.entry) es ≡ true → with_place points es p (bodies_of points places es) ≡ bodies_of points (places ++ p ∷ []) es
  grown [] d h = absurd (true≢false (sym h))
  grown (e ∷ es) d h = by e es (nat_eq p.entry e) refl d (λ is. grown es (IsDistinct-tail nat_eq e es d) (in_tail e es is h))
