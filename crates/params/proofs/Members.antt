-- Members of lists.
use Rattle.std.proofs.Common.{◌≡◌, ℕ, List, [], ◌∷◌, get_or, refl, sym, ◌∙◌, ap, subst, arith, inl, inr}
use Rattle.std.specs.Prelude.{◌⊎◌, map}
use Rattle.std.specs.List.{All, Contains, flat_map}
use Rattle.std.specs.Ordering.{nat_cmp, ordering_reverse}
use Rattle.std.specs.Cmp.{nat_cmp_total}
use Rattle.std.specs.declared.cmp.Ordering.TheVariants.{Less, Greater}
use Rattle.std.specs.List.Sorted.{IsStrictlySortedBy}
use Rattle.std.proofs.lemmas.List.Elements.{All-head, All-tail, All-contains, All-from_recursion, Contains-append_left, Contains-append_right, Contains-append_cases, Contains-get_or}
use Rattle.std.proofs.lemmas.Map.Keys.{sorted_head, sorted_tail}
use Rattle.points.specs.Exactly.{IsExactly}

pub none-in : {A : Type 0} {T : Type 0} (x : T) → Contains [] x → A
none-in x h = let no : ⊥ = omega (arith, h.1) in absurd no

pub first-in : {T : Type 0} (x : T) (xs : List T) → Contains (x ∷ xs) x
first-in x xs = Contains-get_or (x ∷ xs) 0 x (omega arith)

pub later-in : {T : Type 0} (x y : T) (xs : List T) → Contains xs y → Contains (x ∷ xs) y
later-in x y xs h = Contains-append_right (x ∷ []) xs y h

pub only-in : {T : Type 0} (x y : T) → Contains (x ∷ []) y → x ≡ y
only-in x y a = let z : a.0 ≡ 0 = omega (arith, a.1) in ap (λ k. get_or (x ∷ []) k y) (sym z) ∙ a.2

pub split-in : {T : Type 0} (x y : T) (xs : List T) → Contains (x ∷ xs) y → (x ≡ y) ⊎ Contains xs y
split-in x y xs h = by (Contains-append_cases (x ∷ []) xs y h)
  where
    by : Contains (x ∷ []) y ⊎ Contains xs y → (x ≡ y) ⊎ Contains xs y
    by (inl a) = inl (only-in x y a)
    by (inr b) = inr b

module _ {X Y : Type 0} (f : X → List Y) where
  -- where a member of a joined list comes from
  pub from-joined : (xs : List X) (y : Y) → Contains (flat_map f xs) y → (x : X) × Contains xs x × Contains (f x) y
  from-joined [] y h = none-in y h
  from-joined (x ∷ xs) y h = by (from-joined xs y) (Contains-append_cases (f x) (flat_map f xs) y h)
    where
      by : (Contains (flat_map f xs) y → (z : X) × Contains xs z × Contains (f z) y) → Contains (f x) y ⊎ Contains (flat_map f xs) y → (z : X) × Contains (x ∷ xs) z × Contains (f z) y
      by more (inl a) = (x, first-in x xs, a)
      by more (inr b) = let r = more b in (r.0, later-in x r.0 xs r.1, r.2)

  pub to-joined : (xs : List X) (x : X) (y : Y) → Contains xs x → Contains (f x) y → Contains (flat_map f xs) y
  to-joined [] x y h c = none-in x h
  to-joined (z ∷ xs) x y h c = by (λ t. to-joined xs x y t c) (split-in z x xs h)
    where
      by : (Contains xs x → Contains (flat_map f xs) y) → (z ≡ x) ⊎ Contains xs x → Contains (flat_map f (z ∷ xs)) y
      by more (inl e) = Contains-append_left (f z) (flat_map f xs) y (subst (λ w. Contains (f w) y) (sym e) c)
      by more (inr t) = Contains-append_right (f z) (flat_map f xs) y (more t)

module _ {X Y : Type 0} (f : X → Y) where
  pub from-mapped : (xs : List X) (y : Y) → Contains (map f xs) y → (x : X) × Contains xs x × (f x ≡ y)
  from-mapped [] y h = none-in y h
  from-mapped (x ∷ xs) y h = by (from-mapped xs y) (split-in (f x) y (map f xs) h)
    where
      by : (Contains (map f xs) y → (z : X) × Contains xs z × (f z ≡ y)) → (f x ≡ y) ⊎ Contains (map f xs) y → (z : X) × Contains (x ∷ xs) z × (f z ≡ y)
      by more (inl e) = (x, first-in x xs, e)
      by more (inr t) = let r = more t in (r.0, later-in x r.0 xs r.1, r.2)

  pub to-mapped : (xs : List X) (x : X) → Contains xs x → Contains (map f xs) (f x)
  to-mapped [] x h = none-in x h
  to-mapped (z ∷ xs) x h = by (to-mapped xs x) (split-in z x xs h)
    where
      by : (Contains xs x → Contains (map f xs) (f x)) → (z ≡ x) ⊎ Contains xs x → Contains (map f (z ∷ xs)) (f x)
      by more (inl e) = subst (λ w. Contains (map f (z ∷ xs)) (f w)) e (first-in (f z) (map f xs))
      by more (inr t) = later-in (f z) (f x) (map f xs) (more t)

-- ---- lists that rise

pub both-below : (x y : ℕ) → nat_cmp x y ≡ Less → nat_cmp y x ≡ Less → ⊥
both-below x y a b = let e = nat_cmp_total.antisymm x y ∙ ap ordering_reverse b in let f : Less ≡ Greater = sym a ∙ e in cc

pub above : (x : ℕ) (xs : List ℕ) → IsStrictlySortedBy nat_cmp (x ∷ xs) → (z : ℕ) → Contains xs z → nat_cmp x z ≡ Less
above x xs s z c = All-contains (λ y. nat_cmp x y ≡ Less) xs z (All-from_recursion (λ y. nat_cmp x y ≡ Less) xs (sorted_head nat_cmp x xs s)) c

same-heads : (x y : ℕ) (xs ys : List ℕ) → IsStrictlySortedBy nat_cmp (x ∷ xs) → IsStrictlySortedBy nat_cmp (y ∷ ys) → (y ≡ x) ⊎ Contains ys x → (x ≡ y) ⊎ Contains xs y → x ≡ y
same-heads x y xs ys sx sy (inl e) b = sym e
same-heads x y xs ys sx sy (inr c) (inl e) = e
same-heads x y xs ys sx sy (inr c) (inr d) = absurd (both-below y x (above y ys sy x c) (above x xs sx y d))

later : (x y z : ℕ) (xs ys : List ℕ) → x ≡ y → IsStrictlySortedBy nat_cmp (x ∷ xs) → Contains xs z → (y ≡ z) ⊎ Contains ys z → Contains ys z
later x y z xs ys e s c (inl f) = let m : nat_cmp z z ≡ Less = subst (λ w. nat_cmp w z ≡ Less) (e ∙ f) (above x xs s z c) in absurd (both-below z z m m)
later x y z xs ys e s c (inr d) = d

-- lists that rise and have the same members are equal
pub same-rising : (xs ys : List ℕ) → IsStrictlySortedBy nat_cmp xs → IsStrictlySortedBy nat_cmp ys
    → ((z : ℕ) → Contains xs z → Contains ys z) → ((z : ℕ) → Contains ys z → Contains xs z) → xs ≡ ys
same-rising [] [] sx sy to from = refl
same-rising [] (y ∷ ys) sx sy to from = none-in y (from y (first-in y ys))
same-rising (x ∷ xs) [] sx sy to from = none-in x (to x (first-in x xs))
same-rising (x ∷ xs) (y ∷ ys) sx sy to from =
    let e = same-heads x y xs ys sx sy (split-in y x ys (to x (first-in x xs))) (split-in x y xs (from y (first-in y ys))) in
    let t = same-rising xs ys (sorted_tail nat_cmp x xs sx) (sorted_tail nat_cmp y ys sy)
    (λ z c. later x y z xs ys e sx c (split-in y z ys (to z (later-in x z xs c))))
    (λ z c. later y x z ys xs (sym e) sy c (split-in x z xs (from z (later-in y z ys c)))) in
    λ i. e i ∷ t i

pub same-exactly : (P : ℕ → Type 0) (xs ys : List ℕ) → IsStrictlySortedBy nat_cmp xs → IsStrictlySortedBy nat_cmp ys → IsExactly P xs → IsExactly P ys → xs ≡ ys
same-exactly P xs ys sx sy a b = same-rising xs ys sx sy (λ x c. b.whole x (All-contains P xs x a.sound c)) (λ x c. a.whole x (All-contains P ys x b.sound c))

-- lists whose items are each known by a part of them
module _ {X K : Type 0} (f : X → K) (P : X → Type 0) (one : (x y : X) → P x → P y → f x ≡ f y → x ≡ y) where
  pub same-by-part : (xs ys : List X) → All P xs → All P ys → map f xs ≡ map f ys → xs ≡ ys
  same-by-part [] [] a b e = refl
  same-by-part [] (y ∷ ys) a b e = absurd (cc)
  same-by-part (x ∷ xs) [] a b e = absurd (cc)
  same-by-part (x ∷ xs) (y ∷ ys) a b e =
      let h : f x ≡ f y = cc in
      let t : map f xs ≡ map f ys = cc in
      let p = one x y (All-head P x xs a) (All-head P y ys b) h in
      let q = same-by-part xs ys (All-tail P x xs a) (All-tail P y ys b) t in
      λ i. p i ∷ q i
