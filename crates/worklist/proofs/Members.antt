-- Members of lists, of joined lists and of mapped lists.
use Rattle.std.proofs.Common.{◌≡◌, List, [], ◌∷◌, get_or, sym, ◌∙◌, ap, subst, arith, inl, inr}
use Rattle.std.specs.Prelude.{◌⊎◌, map}
use Rattle.std.specs.List.{Contains, flat_map}
use Rattle.std.proofs.lemmas.List.Elements.{Contains-append_left, Contains-append_right, Contains-append_cases, Contains-get_or}

pub no_member : {T : Type 0} (x : T) → Contains [] x → ⊥
no_member x h = omega (arith, h.1)

pub head_member : {T : Type 0} (x : T) (xs : List T) → Contains (x ∷ xs) x
head_member x xs = Contains-get_or (x ∷ xs) 0 x (omega arith)

pub tail_member : {T : Type 0} (x y : T) (xs : List T) → Contains xs y → Contains (x ∷ xs) y
tail_member x y xs h = Contains-append_right (x ∷ []) xs y h

-- a member is the head or one of the tail
pub member_cases : {T : Type 0} (x y : T) (xs : List T) → Contains (x ∷ xs) y → (x ≡ y) ⊎ Contains xs y
member_cases x y xs h = by (Contains-append_cases (x ∷ []) xs y h)
  where
    by : Contains (x ∷ []) y ⊎ Contains xs y → (x ≡ y) ⊎ Contains xs y
    by (inl a) = inl (let first : a.0 ≡ 0 = omega (arith, a.1) in ap (λ k. get_or (x ∷ []) k y) (sym first) ∙ a.2)
    by (inr b) = inr b

-- the member of a list of one
pub only_member : {T : Type 0} (x y : T) → Contains (x ∷ []) y → x ≡ y
only_member x y h = by (member_cases x y [] h)
  where
    by : (x ≡ y) ⊎ Contains [] y → x ≡ y
    by (inl e) = e
    by (inr n) = absurd (no_member y n)

module _ {X Y : Type 0} (f : X → List Y) where
  joined_by : (x : X) (xs : List X) (y : Y) → (Contains (flat_map f xs) y → (z : X) × Contains xs z × Contains (f z) y) → Contains (f x) y ⊎ Contains (flat_map f xs) y → (z : X) × Contains (x ∷ xs) z × Contains (f z) y
  joined_by x xs y rest (inl a) = (x, head_member x xs, a)
  joined_by x xs y rest (inr b) = let r = rest b in (r.0, tail_member x r.0 xs r.1, r.2)

  -- where a member of a joined list comes from
  pub from_joined : (xs : List X) (y : Y) → Contains (flat_map f xs) y → (x : X) × Contains xs x × Contains (f x) y
  from_joined [] y h = absurd (no_member y h)
  from_joined (x ∷ xs) y h = joined_by x xs y (from_joined xs y) (Contains-append_cases (f x) (flat_map f xs) y h)

  into_by : (z : X) (xs : List X) (x : X) (y : Y) → Contains (f x) y → (Contains xs x → Contains (flat_map f xs) y) → (z ≡ x) ⊎ Contains xs x → Contains (flat_map f (z ∷ xs)) y
  into_by z xs x y c rest (inl e) = Contains-append_left (f z) (flat_map f xs) y (subst (λ w. Contains (f w) y) (sym e) c)
  into_by z xs x y c rest (inr t) = Contains-append_right (f z) (flat_map f xs) y (rest t)

  pub into_joined : (xs : List X) (x : X) (y : Y) → Contains xs x → Contains (f x) y → Contains (flat_map f xs) y
  into_joined [] x y h c = absurd (no_member x h)
  into_joined (z ∷ xs) x y h c = into_by z xs x y c (λ t. into_joined xs x y t c) (member_cases z x xs h)

module _ {X Y : Type 0} (f : X → Y) where
  mapped_by : (x : X) (xs : List X) (y : Y) → (Contains (map f xs) y → (z : X) × Contains xs z × (f z ≡ y)) → (f x ≡ y) ⊎ Contains (map f xs) y → (z : X) × Contains (x ∷ xs) z × (f z ≡ y)
  mapped_by x xs y rest (inl e) = (x, head_member x xs, e)
  mapped_by x xs y rest (inr t) = let r = rest t in (r.0, tail_member x r.0 xs r.1, r.2)

  -- where a member of a mapped list comes from
  pub from_mapped : (xs : List X) (y : Y) → Contains (map f xs) y → (x : X) × Contains xs x × (f x ≡ y)
  from_mapped [] y h = absurd (no_member y h)
  from_mapped (x ∷ xs) y h = mapped_by x xs y (from_mapped xs y) (member_cases (f x) y (map f xs) h)

  put_by : (z : X) (xs : List X) (x : X) → (Contains xs x → Contains (map f xs) (f x)) → (z ≡ x) ⊎ Contains xs x → Contains (map f (z ∷ xs)) (f x)
  put_by z xs x rest (inl e) = subst (λ w. Contains (map f (z ∷ xs)) (f w)) e (head_member (f z) (map f xs))
  put_by z xs x rest (inr t) = tail_member (f z) (f x) (map f xs) (rest t)

  pub into_mapped : (xs : List X) (x : X) → Contains xs x → Contains (map f xs) (f x)
  into_mapped [] x h = absurd (no_member x h)
  into_mapped (z ∷ xs) x h = put_by z xs x (into_mapped xs x) (member_cases z x xs h)
