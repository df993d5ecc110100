-- Lists whose items are related place by place.
use Rattle.std.proofs.Common.{◌≡◌, ℕ, zero, suc, ◌+◌, ◌<◌, List, [], ◌∷◌, ◌++◌, length, get_or, take, Some, refl, sym, ap, ◌∙◌, subst}
use Rattle.std.specs.Prelude.{slice_get}
use Rattle.std.specs.List.{AllZip}
use Rattle.std.proofs.lemmas.List.{take_more}

module _ {A B : Type 0} (R : A → B → Type 0) where
  zip-push : (xs : List A) (ys : List B) (x : A) (y : B) → AllZip R xs ys → R x y → AllZip R (xs ++ x ∷ []) (ys ++ y ∷ [])
  zip-push [] [] x y h r = (r, tt)
  zip-push [] (b ∷ ys) x y h r = absurd h
  zip-push (a ∷ xs) [] x y h r = absurd h
  zip-push (a ∷ xs) (b ∷ ys) x y h r = (h.0, zip-push xs ys x y h.1 r)

  -- one more of them
  pub zip-more : (xs : List A) (ys new : List B) (k : ℕ) (x : A) (y : B) → k < length xs → x ≡ get_or xs k x → new ≡ ys ++ y ∷ [] → AllZip R (take k xs) ys → R x y → AllZip R (take (k + 1) xs) new
  zip-more xs ys new k x y lt is e h r =
      let front : take k xs ++ x ∷ [] ≡ take (k + 1) xs = ap (λ z. take k xs ++ z ∷ []) is ∙ sym (take_more xs k x lt) in
      subst (λ zs. AllZip R (take (k + 1) xs) zs) (sym e) (subst (λ zs. AllZip R zs (ys ++ y ∷ [])) front (zip-push (take k xs) ys x y h r))

  -- what stands beside an item
  pub beside : (xs : List A) (ys : List B) (k : ℕ) (x : A) → AllZip R xs ys → slice_get xs k ≡ Some x → (y : B) × (slice_get ys k ≡ Some y) × R x y
  beside [] ys k x h e = let no : ⊥ = cc in absurd no
  beside (a ∷ xs) [] k x h e = absurd h
  beside (a ∷ xs) (b ∷ ys) zero x h e = let same : a ≡ x = cc in (b, refl, subst (λ z. R z b) same h.0)
  beside (a ∷ xs) (b ∷ ys) (suc k) x h e = beside xs ys k x h.1 e
