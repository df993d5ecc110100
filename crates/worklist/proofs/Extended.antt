-- A list that grows at its end.
use Rattle.std.proofs.Common.{◌≡◌, ℕ, ◌+◌, ◌<◌, ◌≤◌, Bool, true, false, List, [], ◌∷◌, ◌++◌, length, get_or, take, refl, sym, ◌∙◌, ap, subst, append_assoc}
use Rattle.std.specs.Prelude.{if◌then◌else◌}
use Rattle.std.specs.List.{All, Contains, list_any}
use Rattle.std.proofs.lemmas.List.Elements.{All-nil, All-push, All-weaker, All-more, Contains-append_left}
use Rattle.std.proofs.lemmas.List.{append-nil, take_all}
use Rattle.indexmap.specs.IndexSet.{insert_key}
use Rattle.indexmap.proofs.CallerLemmas.{Contains-insert_key}
use Rattle.worklist.specs.Closures.{IsExtended}

module _ {T : Type 0} (xs : List T) where
  pub extended_by_none : (old : List T) → IsExtended xs old old
  extended_by_none old = record { added = []; is = sym (append-nil old); among = All-nil (Contains xs) }

  insert_one : (eq : T → T → Bool) (old mid : List T) (x : T) → IsExtended xs old mid → Contains xs x → IsExtended xs old (insert_key eq mid x)
  insert_one eq old mid x p h = by (list_any (eq x) mid) refl
    where
      by : (b : Bool) → list_any (eq x) mid ≡ b → IsExtended xs old (insert_key eq mid x)
      by true e = subst (IsExtended xs old) (sym (ap (λ c. if c then mid else mid ++ x ∷ []) e)) p
      by false e =
          subst (IsExtended xs old) (sym (ap (λ c. if c then mid else mid ++ x ∷ []) e))
          (record { added = p.added ++ x ∷ []; is = ap (λ l. l ++ x ∷ []) p.is ∙ append_assoc old p.added (x ∷ []); among = All-push (Contains xs) p.added x p.among h })

  pub member_stays : (old new : List T) (x : T) → IsExtended xs old new → Contains old x → Contains new x
  member_stays old new x p h = subst (λ l. Contains l x) (sym p.is) (Contains-append_left old p.added x h)

  pub members_stay : (old new ys : List T) → IsExtended xs old new → All (Contains old) ys → All (Contains new) ys
  members_stay old new ys p h = All-weaker (Contains old) (Contains new) (λ x. member_stays old new x p) ys h

module _ {T : Type 0} (eq : T → T → Bool) (same : (x y : T) → eq x y ≡ true → x ≡ y) (xs : List T) where
  -- one of xs is inserted
  pub extended_insert : (old mid new : List T) (x : T) (at : ℕ) → at < length xs → x ≡ get_or xs at x → new ≡ insert_key eq mid x → IsExtended xs old mid → IsExtended xs old new
  extended_insert old mid new x at lt is e p = subst (IsExtended xs old) (sym e) (insert_one xs eq old mid x p (at, lt, sym is))

  kept : (mid : List T) (x y : T) → Contains mid y → Contains (insert_key eq mid x) y
  kept mid x y h = by (list_any (eq x) mid) refl
    where
      by : (b : Bool) → list_any (eq x) mid ≡ b → Contains (insert_key eq mid x) y
      by true e = subst (λ l. Contains l y) (sym (ap (λ c. if c then mid else mid ++ x ∷ []) e)) h
      by false e = subst (λ l. Contains l y) (sym (ap (λ c. if c then mid else mid ++ x ∷ []) e)) (Contains-append_left mid (x ∷ []) y h)

  -- so far all of xs are there
  pub all_insert : (mid new : List T) (x : T) (at : ℕ) → at < length xs → x ≡ get_or xs at x → new ≡ insert_key eq mid x → All (Contains mid) (take at xs) → All (Contains new) (take (at + 1) xs)
  all_insert mid new x at lt is e h =
      subst (λ l. All (Contains l) (take (at + 1) xs)) (sym e)
      (All-more (Contains (insert_key eq mid x)) xs at x lt
      (All-weaker (Contains mid) (Contains (insert_key eq mid x)) (kept mid x) (take at xs) h)
      (subst (Contains (insert_key eq mid x)) is (Contains-insert_key eq same mid x)))

  pub all_inserted : (keys : List T) (at : ℕ) → length xs ≤ at → All (Contains keys) (take at xs) → All (Contains keys) xs
  all_inserted keys at h all = subst (All (Contains keys)) (take_all at xs h) all
