-- Entries of which the first of each name counts.
use Rattle.std.proofs.Common.{◌≡◌, ℕ, Bool, true, false, cond, List, [], ◌∷◌, ◌++◌, Some, None, is_some, nat_eq, refl, sym, ap, ◌∙◌, ◌⊎◌, inl, inr}
use Rattle.std.specs.Option.{option_or}
use Rattle.std.specs.Cmp.Lexicographic.{pointwise}
use Rattle.std.proofs.lemmas.Bool.{cases_Bool}
use Rattle.std.proofs.lemmas.List.{append_assoc}
use Rattle.std.proofs.lemmas.Slice.Eq.{bytes_eq-Decides}
use Rattle.ssl_rules.specs.declared.tables.Own.{Own}
use Rattle.ssl_rules.specs.Lookup.{named}
use Rattle.ssl_core.specs.Kept.{with_new, kept}
use Rattle.ssl_core.specs.OwnNames.{FindSame}
use Rattle.ssl_core.proofs.Basics.{or_none, or_assoc, either_or, first_counts}

pub named-append : {X : Type 0} (xs ys : List (List ℕ × X)) (name : List ℕ) → named (xs ++ ys) name ≡ option_or (named xs name) (named ys name)
named-append [] ys name = refl
named-append (x ∷ xs) ys name =
    ap (cond (pointwise nat_eq name x.0) (Some x.1)) (named-append xs ys name) ∙ either_or (pointwise nat_eq name x.0) x.1 (named xs name) (named ys name)

-- an entry more finds its name, where it was not there
pub with_new-found : {X : Type 0} (t : List (List ℕ × X)) (name : List ℕ) (x : X) (asked : List ℕ)
    → named (with_new t name x) asked ≡ option_or (named t asked) (named ((name, x) ∷ []) asked)
with_new-found {X} t name x asked = by (is_some (named t name)) refl
  where
    there : is_some (named t name) ≡ true → (pointwise nat_eq asked name ≡ true) ⊎ (pointwise nat_eq asked name ≡ false)
        → named t asked ≡ option_or (named t asked) (named ((name, x) ∷ []) asked)
    there e (inl same) =
        let is : asked ≡ name = (bytes_eq-Decides asked name).0 same in
        first_counts (named t asked) (named ((name, x) ∷ []) asked) (ap (λ n. is_some (named t n)) is ∙ e)
    there e (inr other) = rw other (sym (or_none (named t asked)))

    by : (b : Bool) → is_some (named t name) ≡ b → named (cond b t (t ++ (name, x) ∷ [])) asked ≡ option_or (named t asked) (named ((name, x) ∷ []) asked)
    by false e = named-append t ((name, x) ∷ []) asked
    by true e = there e (cases_Bool (pointwise nat_eq asked name))

pub with_new-fresh : {X : Type 0} (t : List (List ℕ × X)) (name : List ℕ) (x : X) → named t name ≡ None → with_new t name x ≡ t ++ (name, x) ∷ []
with_new-fresh t name x e = rw e refl

-- a name is found as among all
pub kept-found : {X : Type 0} (t es : List (List ℕ × X)) (asked : List ℕ) → named (kept t es) asked ≡ option_or (named t asked) (named es asked)
kept-found t [] asked = sym (or_none (named t asked))
kept-found t (e ∷ es) asked =
    kept-found (with_new t e.0 e.1) es asked ∙ ap (λ o. option_or o (named es asked)) (with_new-found t e.0 e.1 asked)
    ∙ or_assoc (named t asked) (cond (pointwise nat_eq asked e.0) (Some e.1) None) (named es asked)
    ∙ ap (option_or (named t asked)) (sym (either_or (pointwise nat_eq asked e.0) e.1 None (named es asked)))

pub kept-same : (es : List (List ℕ × Own)) → FindSame (kept [] es) es
kept-same es = record { found = λ asked. kept-found [] es asked }

pub kept-append : {X : Type 0} (t xs ys : List (List ℕ × X)) → kept t (xs ++ ys) ≡ kept (kept t xs) ys
kept-append t [] ys = refl
kept-append t (x ∷ xs) ys = kept-append (with_new t x.0 x.1) xs ys

-- an entry with a new name, and then others
pub entry_kept : {X : Type 0} (t : List (List ℕ × X)) (name : List ℕ) (x : X) (rest : List (List ℕ × X)) → named t name ≡ None
    → kept (t ++ (name, x) ∷ []) rest ≡ (t ++ (name, x) ∷ []) ++ rest → kept t ((name, x) ∷ rest) ≡ t ++ ((name, x) ∷ rest)
entry_kept t name x rest none h = ap (λ s. kept s rest) (with_new-fresh t name x none) ∙ h ∙ append_assoc t ((name, x) ∷ []) rest
