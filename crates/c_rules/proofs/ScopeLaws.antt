-- The walk over what a function mentions.
use Rattle.std.proofs.Common.{◌≡◌, ℕ, ◌+◌, ◌<◌, ◌≤◌, Bool, true, false, ◌&&◌, List, [], ◌∷◌, ◌++◌, length, take, get_or, map, refl, sym, ap, ◌∙◌, append_assoc}
use Rattle.std.proofs.lemmas.List.{append-nil, get_or_default, map_push, take_all, take_more}
use Rattle.c_lang.specs.declared.tree.Case.{Case}
use Rattle.std.specs.List.{list_all}
use Rattle.c_lang.specs.Items.{Mention, together}
use Rattle.c_rules.specs.declared.scope.Scope.{Scope}
use Rattle.c_rules.specs.declared.scope.Kept.{Kept}
use Rattle.c_rules.specs.Scopes.{has_name, has_count, has_size, noted}

all_more : {A : Type 0} (p : A → Bool) (k : Bool) (xs ys : List A) → ((k && list_all p xs) && list_all p ys) ≡ (k && list_all p (xs ++ ys))
all_more p false xs ys = refl
all_more p true [] ys = refl
all_more p true (x ∷ xs) ys = by (p x) (all_more p true xs ys)
  where
    by : (b : Bool) → (list_all p xs && list_all p ys) ≡ list_all p (xs ++ ys) → ((b && list_all p xs) && list_all p ys) ≡ (b && list_all p (xs ++ ys))
    by true e = e
    by false e = refl

pub and_true : (k : Bool) → (k && true) ≡ k
and_true true = refl
and_true false = refl

-- some mentions, and then others
pub noted_more : (s : Scope) (k : Kept) (xs ys : List Mention) → noted s (noted s k xs) ys ≡ noted s k (xs ++ ys)
unfolding noted
noted_more s k xs ys = rw (all_more (has_name s) k.known xs ys, all_more (has_count s) k.counted xs ys, all_more has_size k.sized xs ys) refl

pub noted_none : (s : Scope) (k : Kept) → noted s k [] ≡ k
unfolding noted
noted_none s k = rw (and_true k.known, and_true k.counted, and_true k.sized) refl

pub ruleset walk_laws = (noted_more, noted_none)

pub ruleset note_laws = (and_true)

together_both : (xs ys : List (List Mention)) → together (xs ++ ys) ≡ together xs ++ together ys
together_both [] ys = refl
together_both (x ∷ xs) ys = ap (λ ms. x ++ ms) (together_both xs ys) ∙ sym (append_assoc x (together xs) (together ys))

together_one : (x : List Mention) → together (x ∷ []) ≡ x
together_one x = append-nil x

-- one part more
pub note_step : {A : Type 0} (s : Scope) (f : A → List Mention) (xs : List A) (i : ℕ) (x : A) (old mid new : Kept) → i < length xs → x ≡ get_or xs i x → mid ≡ noted s old (together (map f (take i xs))) → new ≡ noted s mid (f x)
    → new ≡ noted s old (together (map f (take (i + 1) xs)))
note_step s f xs i x old mid new l is h e =
    let more : together (map f (take (i + 1) xs)) ≡ together (map f (take i xs)) ++ f x =
    ap (λ ys. together (map f ys)) (take_more xs i x l ∙ ap (λ y. take i xs ++ y ∷ []) (sym is)) ∙ ap together (map_push f (take i xs) x) ∙ together_both (map f (take i xs)) (f x ∷ []) ∙ ap (λ ms. together (map f (take i xs)) ++ ms) (together_one (f x)) in
    e ∙ ap (λ k. noted s k (f x)) h ∙ noted_more s old (together (map f (take i xs))) (f x) ∙ ap (noted s old) (sym more)

pub note_all : {A : Type 0} (s : Scope) (f : A → List Mention) (xs : List A) (i : ℕ) (old new : Kept) → length xs ≤ i → new ≡ noted s old (together (map f (take i xs))) → new ≡ noted s old (together (map f xs))
note_all s f xs i old new l h = h ∙ ap (λ ys. noted s old (together (map f ys))) (take_all i xs l)

pub note_one : (s : Scope) (f : Case → Mention) (xs : List Case) (i : ℕ) (x : Case) (old mid new : Kept) → i < length xs → x ≡ get_or xs i x → mid ≡ noted s old (map f (take i xs)) → new ≡ noted s mid (f x ∷ []) → new ≡ noted s old (map f (take (i + 1) xs))
note_one s f xs i x old mid new l is h e =
    e ∙ ap (λ k. noted s k (f x ∷ [])) h ∙ noted_more s old (map f (take i xs)) (f x ∷ []) ∙ ap (noted s old) (sym (map_push f (take i xs) x) ∙ ap (map f) (sym (take_more xs i x l ∙ ap (λ y. take i xs ++ y ∷ []) (sym is))))

pub note_every : (s : Scope) (f : Case → Mention) (xs : List Case) (i : ℕ) (old new : Kept) → length xs ≤ i → new ≡ noted s old (map f (take i xs)) → new ≡ noted s old (map f xs)
note_every s f xs i old new l h = h ∙ ap (λ ys. noted s old (map f ys)) (take_all i xs l)

pub note_one_at : (s : Scope) (f : Case → Mention) (xs : List Case) (i : ℕ) (d : Case) (old mid new : Kept) → i < length xs → mid ≡ noted s old (map f (take i xs)) → new ≡ noted s mid (f (get_or xs i d) ∷ []) → new ≡ noted s old (map f (take (i + 1) xs))
note_one_at s f xs i d old mid new l h e = note_one s f xs i (get_or xs i d) old mid new l (get_or_default xs i d (get_or xs i d) l) h e

pub ruleset loop_laws = (note_step, note_all, note_one, note_every, noted_none)
