-- The one element of a list that passes a test.
use Rattle.std.proofs.Common.{◌≡◌, ℕ, ◌+◌, ◌<◌, ◌≤◌, zero, suc, List, [], ◌∷◌, ◌++◌, length, take, drop, get_or, refl, sym, ap, ◌∙◌, arith, true, false, Bool, take-append-drop, drop-cons, length-append}
use Rattle.std.specs.List.{All, filter, zip}
use Rattle.std.proofs.lemmas.List.Elements.{filter-append, filter_more}
use Rattle.std.proofs.lemmas.List.{take_all}
use Rattle.std.proofs.lemmas.Option.{slice_get_within, get_or_from_slice_get}
use Rattle.std.specs.Prelude.{cond, slice_get, Some}

module _ {X : Type 0} (p : X → Bool) where
  pub none_pass : (xs : List X) → All (λ x. p x ≡ false) xs → filter p xs ≡ []
  none_pass [] h = refl
  none_pass (x ∷ xs) h = ap (λ b. cond b (x ∷ filter p xs) (filter p xs)) (h 0 x (omega arith)) ∙ none_pass xs (λ k d lt. h (suc k) d (omega arith))

  pub pass_round : (xs : List X) (i : ℕ) (d : X) → i < length xs → p (get_or xs i d) ≡ true → filter p xs ≡ filter p (take i xs) ++ (get_or xs i d ∷ filter p (drop (suc i) xs))
  pass_round xs i d lt passes =
      ap (filter p) (sym (take-append-drop i xs)) ∙ filter-append p (take i xs) (drop i xs)
      ∙ ap (λ ys. filter p (take i xs) ++ filter p ys) (drop-cons xs i d lt)
      ∙ ap (λ b. filter p (take i xs) ++ cond b (get_or xs i d ∷ filter p (drop (suc i) xs)) (filter p (drop (suc i) xs))) passes

  only_one : (us : List X) (x : X) (bs : List X) (y : X) → us ++ (x ∷ bs) ≡ y ∷ [] → us ++ (x ∷ bs) ≡ x ∷ []
  only_one [] x bs y e = cc
  only_one (u ∷ us) x bs y e = absurd (omega (arith, ap length e, length-append us (x ∷ bs)))

  -- where exactly one passes, it is each that passes
  pub one_passes : (xs : List X) (i : ℕ) (d y : X) → i < length xs → p (get_or xs i d) ≡ true → filter p xs ≡ y ∷ [] → filter p xs ≡ get_or xs i d ∷ []
  one_passes xs i d y lt passes e =
      let round = pass_round xs i d lt passes in
      round ∙ only_one (filter p (take i xs)) (get_or xs i d) (filter p (drop (suc i) xs)) y (sym round ∙ e)

  -- one more does not pass
  pub none_more : (xs : List X) (i : ℕ) (d : X) → i < length xs → filter p (take i xs) ≡ [] → p (get_or xs i d) ≡ false → filter p (take (i + 1) xs) ≡ []
  none_more xs i d lt none fails = filter_more p xs i d lt ∙ ap (λ ys. ys ++ cond (p (get_or xs i d)) (get_or xs i d ∷ []) []) none ∙ ap (λ b. cond b (get_or xs i d ∷ []) []) fails

  -- where one passes it is not that none does
  pub not_none : (xs : List X) (i : ℕ) (y : X) → length xs ≤ i → filter p (take i xs) ≡ [] → filter p xs ≡ y ∷ [] → ⊥
  not_none xs i y le none e = let all : filter p (take i xs) ≡ filter p xs = ap (filter p) (take_all i xs le) in omega (arith, ap length (sym e ∙ sym all ∙ none))

  -- the same of an element that was read
  pub one_passes_at : (xs : List X) (i : ℕ) (x y : X) → i < length xs → x ≡ get_or xs i x → p x ≡ true → filter p xs ≡ y ∷ [] → filter p xs ≡ x ∷ []
  one_passes_at xs i x y lt is passes e = one_passes xs i x y lt (ap p (sym is) ∙ passes) e ∙ ap (λ z. z ∷ []) (sym is)

  pub one_passes_found : (xs : List X) (i : ℕ) (x y : X) → slice_get xs i ≡ Some x → p x ≡ true → filter p xs ≡ y ∷ [] → filter p xs ≡ x ∷ []
  one_passes_found xs i x y there passes e = one_passes_at xs i x y (slice_get_within xs i x there) (sym (get_or_from_slice_get xs i x x there)) passes e

  pub none_more_at : (xs : List X) (i : ℕ) (x : X) → i < length xs → x ≡ get_or xs i x → filter p (take i xs) ≡ [] → p x ≡ false → filter p (take (i + 1) xs) ≡ []
  none_more_at xs i x lt is none fails = none_more xs i x lt none (ap p (sym is) ∙ fails)

-- two lists side by side
pub zip_next : {X Y : Type 0} (xs : List X) (ys : List Y) (i : ℕ) (x : X) (y : Y) → i < length xs → length ys ≡ length xs → get_or (zip xs ys) i (x, y) ≡ (get_or xs i x, get_or ys i y)
zip_next [] ys i x y lt e = absurd (omega arith)
zip_next (a ∷ xs) [] i x y lt e = absurd (omega (arith, e))
zip_next (a ∷ xs) (b ∷ ys) zero x y lt e = refl
zip_next (a ∷ xs) (b ∷ ys) (suc i) x y lt e = zip_next xs ys i x y (omega arith) (omega (arith, e))

pub length-zip : {X Y : Type 0} (xs : List X) (ys : List Y) → length ys ≡ length xs → length (zip xs ys) ≡ length xs
length-zip [] ys e = refl
length-zip (a ∷ xs) [] e = absurd (omega (arith, e))
length-zip (a ∷ xs) (b ∷ ys) e = ap suc (length-zip xs ys (omega (arith, e)))

pub zipped : {X Y : Type 0} (xs : List X) (ys : List Y) (i : ℕ) (x : X) (y : Y) → i < length xs → length ys ≡ length xs → x ≡ get_or xs i x → y ≡ get_or ys i y → get_or (zip xs ys) i (x, y) ≡ (x, y)
zipped xs ys i x y lt e a b = zip_next xs ys i x y lt e ∙ (λ j. (sym a j, sym b j))
