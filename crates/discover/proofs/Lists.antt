-- Lists by their members.
use Rattle.std.proofs.Common.{cond, true≢false, ◌≡◌, ℕ, ◌<◌, Bool, true, false, List, [], ◌∷◌, length, get_or, refl, sym, ◌∙◌, ap, subst, inl, inr, arith}
use Rattle.std.specs.Prelude.{◌⊎◌, map, filter, Result, Ok, Err, IfOk}
use Rattle.std.specs.List.{All, Contains, list_any}
use Rattle.std.specs.List.Sorted.{IsStrictlySortedBy}
use Rattle.std.specs.Ordering.{nat_cmp}
use Rattle.std.proofs.lemmas.List.{get_or_default, get_or-map, length-map}
use Rattle.std.proofs.lemmas.List.Elements.{All-contains, All-contains_itself, All-filter, filter_passes}
use Rattle.std.proofs.lemmas.List.Folds.{list_any_at}
use Rattle.worklist.specs.Closures.{HaveSameMembers}
use Rattle.worklist.proofs.Members.{no_member, head_member, tail_member, member_cases}
use Rattle.points.specs.Exactly.{IsExactly}
use Rattle.discover.specs.Parts.{IsAscendingOf}

module _ {T : Type 0} where
  -- two lists have each the members of the other
  pub exactly_members : (xs ys : List T) → All (Contains xs) ys → All (Contains ys) xs → IsExactly (Contains xs) ys
  exactly_members xs ys only whole = record { sound = only; whole = λ x c. All-contains (Contains ys) xs x whole c }

  -- the same of what a call gives
  pub exactly_given : {S E : Type 0} (keys : S → List T) (xs all : List T) (r : Result S E) → all ≡ xs → IfOk r (λ s. All (Contains all) (keys s)) → IfOk r (λ s. All (Contains (keys s)) all) → IfOk r (λ s. IsExactly (Contains xs) (keys s))
  exactly_given keys xs all (Ok s) e only whole = subst (λ l. IsExactly (Contains l) (keys s)) e (exactly_members all (keys s) only whole)
  exactly_given keys xs all (Err f) e only whole = tt

  pub have_same : (P : T → Type 0) (xs ys : List T) → IsExactly P xs → IsExactly P ys → HaveSameMembers xs ys
  have_same P xs ys a b = record {
    there = λ x c. b.whole x (All-contains P xs x a.sound c);
    back = λ x c. a.whole x (All-contains P ys x b.sound c);
  }

  pub any_of_member : (f : T → T → Bool) (itself : (x : T) → f x x ≡ true) (xs : List T) (x : T) → Contains xs x → list_any (f x) xs ≡ true
  any_of_member f itself xs x c = list_any_at (f x) xs c.0 x c.1 (ap (f x) c.2 ∙ itself x)

pub ascending_of : (xs all ys : List ℕ) → all ≡ xs → IsStrictlySortedBy nat_cmp ys → All (Contains all) ys → All (Contains ys) all → IsAscendingOf xs ys
ascending_of xs all ys e ascend only whole = subst (λ l. IsAscendingOf l ys) e (record { rises = ascend; exactly = exactly_members all ys only whole })

module _ {T : Type 0} (p : T → Bool) where
  pub into_filtered : (xs : List T) (x : T) → Contains xs x → p x ≡ true → Contains (filter p xs) x
  into_filtered [] x c e = absurd (no_member x c)
  into_filtered (y ∷ ys) x c e = by (p y) refl (λ h. into_filtered ys x h e) (member_cases y x ys c)
    where
      by : (b : Bool) → p y ≡ b → (Contains ys x → Contains (filter p ys) x) → (y ≡ x) ⊎ Contains ys x → Contains (cond b (y ∷ filter p ys) (filter p ys)) x
      by true f rest (inl h) = subst (λ z. Contains (y ∷ filter p ys) z) h (head_member y (filter p ys))
      by true f rest (inr h) = tail_member y x (filter p ys) (rest h)
      by false f rest (inl h) = let g : p x ≡ false = ap p (sym h) ∙ f in absurd (true≢false (sym e ∙ g))
      by false f rest (inr h) = rest h

  pub from_filtered : (xs : List T) (x : T) → Contains (filter p xs) x → Contains xs x × (p x ≡ true)
  from_filtered xs x c = (All-contains (Contains xs) (filter p xs) x (All-filter p (Contains xs) xs (All-contains_itself xs)) c, All-contains (λ y. p y ≡ true) (filter p xs) x (filter_passes p xs) c)

-- a list mapped forth and back
pub mapped_back : {X Y : Type 0} (f : X → Y) (g : Y → X) (same : (x : X) → g (f x) ≡ x) (xs : List X) → map g (map f xs) ≡ xs
mapped_back f g same [] = refl
mapped_back f g same (x ∷ xs) = let h = same x in let t = mapped_back f g same xs in λ i. h i ∷ t i

module _ {X K : Type 0} (f : X → K) where
  -- where the member at a place of a mapped list comes from
  pub mapped_at : (xs : List X) (k : ℕ) (y : K) → k < length (map f xs) → get_or (map f xs) k y ≡ y → (x : X) × (k < length xs) × (get_or xs k x ≡ x) × (f x ≡ y)
  mapped_at [] k y lt e = absurd (omega (arith, lt))
  mapped_at (x ∷ xs) k y lt e =
      let within : k < length (x ∷ xs) = omega (arith, lt, length-map (x ∷ xs) f) in
      let n = get_or (x ∷ xs) k x in
      (n, within, get_or_default (x ∷ xs) k n x within, sym (get_or-map f (x ∷ xs) k x y within) ∙ e)
