-- Values one after another, and all at once.
use Rattle.std.proofs.Common.{◌≡◌, ℕ, List, [], ◌∷◌, ◌++◌, Option, Some, None, refl, sym, ap, ◌∙◌, append_assoc, append-nil}
use Rattle.std.specs.Prelude.{option_and_then}
use Rattle.std.proofs.Math.Path.{fun_ext}
use Rattle.c_lang.specs.declared.tree.CExpr.{CExpr}
use Rattle.c_lang.specs.declared.tree.Program.{Program}
use Rattle.c_lang.specs.Value.{Vars, value}
use Rattle.c_lang.specs.State.{State, CNext, seen_vars}
use Rattle.c_lang.specs.Step.{given, with_values}
use Rattle.c_eval.specs.Plain.{values_from, shown, latest}

one_more : (p : Program) (s : State) (es : List CExpr) (found : List ℕ) (go : List ℕ → CNext) →
    ((n : ℕ) → with_values p s es (λ ns. go ((found ++ n ∷ []) ++ ns)) ≡ given p s (values_from (found ++ n ∷ []) (seen_vars s) es) go) →
    (o : Option ℕ) → given p s o (λ n. with_values p s es (λ ns. go (found ++ n ∷ ns)))
    ≡ given p s (option_and_then (λ n. values_from (found ++ n ∷ []) (seen_vars s) es) o) go
one_more p s es found go later None = refl
one_more p s es found go later (Some n) = ap (with_values p s es) (fun_ext (λ ns. ap go (sym (append_assoc found (n ∷ []) ns)))) ∙ later n

values_behind : (p : Program) (s : State) (es : List CExpr) (found : List ℕ) (go : List ℕ → CNext) →
    with_values p s es (λ ns. go (found ++ ns)) ≡ given p s (values_from found (seen_vars s) es) go
values_behind p s [] found go = ap go (append-nil found)
values_behind p s (e ∷ es) found go = one_more p s es found go (λ n. values_behind p s es (found ++ n ∷ []) go) (value (seen_vars s) e)

-- going on with each value is going on with all of them
pub values_all : (p : Program) (s : State) (es : List CExpr) (go : List ℕ → CNext) → with_values p s es go ≡ given p s (values_from [] (seen_vars s) es) go
values_all p s es go = values_behind p s es [] go

-- no assignment changes nothing
pub shown_none : (first : Vars) → shown first [] ≡ first
unfolding shown latest
shown_none first = refl
