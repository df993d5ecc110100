-- Values of which no two are alike, put into a set one after another.
use Rattle.std.proofs.Common.{◌≡◌, ℕ, ◌+◌, ◌<◌, Bool, true, false, ◌&&◌, List, [], ◌∷◌, ◌++◌, length, take, drop, get_or, Option, Some, None, refl, sym, ap, ◌∙◌, subst}
use Rattle.std.specs.Prelude.{not, ◌||◌}
use Rattle.std.specs.List.{list_any}
use Rattle.std.specs.Cmp.{IsEquivalence}
use Rattle.std.proofs.lemmas.Bool.{and_right, not-false, not-true, true≢false}
use Rattle.std.proofs.lemmas.List.{take_more, take-append-drop}
use Rattle.std.proofs.lemmas.List.Folds.{list_any-append}
use Rattle.std.specs.HashSet.{HashSet}
use Rattle.indexmap.specs.IndexSet.{insert_key}
use Rattle.c_lang.specs.StaticRules.{no_two}
use Rattle.c_rules.specs.Distinct.{Gathered, Holds}

shuffled : (a b c d : Bool) → (not (a || (b || false)) && (c && not d)) ≡ ((not a && c) && not (b || d))
shuffled true b c d = refl
shuffled false true true d = refl
shuffled false true false d = refl
shuffled false false true d = refl
shuffled false false false d = refl

module _ {T : Type 0} (eq : T → T → Bool) (laws : IsEquivalence eq) where
  -- one value more
  no_two_more : (xs : List T) (x : T) → no_two eq (xs ++ x ∷ []) ≡ (no_two eq xs && not (list_any (eq x) xs))
  no_two_more [] x = refl
  no_two_more (y ∷ xs) x =
      rw (list_any-append (eq y) xs (x ∷ []), no_two_more xs x, laws.symm y x) (shuffled (list_any (eq y) xs) (eq x y) (no_two eq xs) (list_any (eq x) xs))

  no_two_front : (xs ys : List T) → no_two eq xs ≡ false → no_two eq (xs ++ ys) ≡ false
  no_two_front [] ys e = absurd (true≢false e)
  no_two_front (x ∷ xs) ys e = by (list_any (eq x) xs) (list_any (eq x) ys) (list_any-append (eq x) xs ys) (no_two eq xs) (no_two_front xs ys) e
    where
      by : (a b : Bool) → list_any (eq x) (xs ++ ys) ≡ (a || b) → (n : Bool) → (n ≡ false → no_two eq (xs ++ ys) ≡ false) → (not a && n) ≡ false → (not (list_any (eq x) (xs ++ ys)) && no_two eq (xs ++ ys)) ≡ false
      by true b e n rec h = rw e refl
      by false true e n rec h = rw e refl
      by false false e n rec h = rw (e, rec h) refl

  next_is : (xs : List T) (i : ℕ) (d : T) → i < length xs → no_two eq (take (i + 1) xs) ≡ (no_two eq (take i xs) && not (list_any (eq (get_or xs i d)) (take i xs)))
  next_is xs i d l = ap (no_two eq) (take_more xs i d l) ∙ no_two_more (take i xs) (get_or xs i d)

  -- a value that the set has
  pub is_twice : {S : Type 0} (xs : List T) (i : ℕ) (v : T) (set : HashSet T S) (added : Bool) → i < length xs → v ≡ get_or xs i v → Holds eq set (take i xs) → added ≡ not (list_any (eq v) set.keys) → added ≡ false → no_two eq xs ≡ false
  is_twice xs i v set added l at h is e =
      let there : list_any (eq v) (take i xs) ≡ true = sym (h.same v) ∙ not-false (list_any (eq v) set.keys) (sym is ∙ e) in
      let front : no_two eq (take (i + 1) xs) ≡ false = next_is xs i v l ∙ ap (λ w. no_two eq (take i xs) && not (list_any (eq w) (take i xs))) (sym at) ∙ rw there (and_right (no_two eq (take i xs)) false refl) in
      ap (no_two eq) (sym (take-append-drop (i + 1) xs)) ∙ no_two_front (take (i + 1) xs) (drop (i + 1) xs) front

  -- a value that the set does not have
  pub is_new : {S : Type 0} (xs : List T) (i : ℕ) (v : T) (set new : HashSet T S) (added : Bool) → i < length xs → v ≡ get_or xs i v → no_two eq (take i xs) ≡ true → Holds eq set (take i xs) → added ≡ not (list_any (eq v) set.keys) → added ≡ true
      → new.keys ≡ insert_key eq set.keys v → (no_two eq (take (i + 1) xs) ≡ true) × Holds eq new (take (i + 1) xs)
  is_new xs i v set new added l at n h is e keys =
      (next_is xs i v l ∙ ap (λ w. no_two eq (take i xs) && not (list_any (eq w) (take i xs))) (sym at) ∙ rw (n, sym (h.same v) ∙ absent) refl, record { same = same })
    where
      absent : list_any (eq v) set.keys ≡ false
      absent = not-true (list_any (eq v) set.keys) (sym is ∙ e)

      same : (x : T) → list_any (eq x) new.keys ≡ list_any (eq x) (take (i + 1) xs)
      same x =
          let pushed : new.keys ≡ set.keys ++ v ∷ [] = keys ∙ rw absent refl in
          ap (list_any (eq x)) pushed ∙ list_any-append (eq x) set.keys (v ∷ []) ∙ rw (h.same x) refl ∙ sym (list_any-append (eq x) (take i xs) (v ∷ [])) ∙ ap (λ w. list_any (eq x) (take i xs ++ w ∷ [])) at ∙ ap (list_any (eq x)) (sym (take_more xs i v l))

-- what a set of a list tells, of an equal list
pub gathered : {T S : Type 0} (eq : T → T → Bool) (xs ys : List T) (found : Option (HashSet T S)) (set : HashSet T S) → xs ≡ ys → Gathered eq xs found → found ≡ Some set → (no_two eq ys ≡ true) × Holds eq set ys
gathered eq xs ys found set e g f =
    let there : Gathered eq xs (Some set) = subst (λ o. Gathered eq xs o) f g in
    subst (λ zs. (no_two eq zs ≡ true) × Holds eq set zs) e there

pub gathered_none : {T S : Type 0} (eq : T → T → Bool) (xs ys : List T) (found : Option (HashSet T S)) → xs ≡ ys → Gathered eq xs found → found ≡ None → no_two eq ys ≡ false
gathered_none eq xs ys found e g f =
    let twice : no_two eq xs ≡ false = subst (λ o. Gathered eq xs o) f g in
    ap (no_two eq) (sym e) ∙ twice
