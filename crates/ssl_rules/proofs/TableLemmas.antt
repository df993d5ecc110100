-- Names, as a map keeps them.
use Rattle.std.proofs.Common.{◌≡◌, ℕ, cond, List, [], ◌∷◌, ◌++◌, map, Some, None, Vec, Global, nat_eq, refl, sym, ap, ◌∙◌}
use Rattle.std.proofs.lemmas.List.{map-append}
use Rattle.std.specs.Cmp.Lexicographic.{pointwise}
use Rattle.std.specs.Map.{lookup}
use Rattle.ssl_rules.specs.Lookup.{named}

-- the entries of a map as contracts see them
abbrev pub shown : {X : Type 0} → List (Vec ℕ Global × X) → List (List ℕ × X)
shown es = map (λ e. (e.0.items, e.1)) es

-- a look-up in the map
pub named-shown : {X : Type 0} (name : List ℕ) (es : List (Vec ℕ Global × X)) → named (shown es) name ≡ lookup (λ k. pointwise nat_eq name k.items) es
named-shown name [] = refl
named-shown name (e ∷ es) = ap (cond (pointwise nat_eq name e.0.items) (Some e.1)) (named-shown name es)

-- a name that is not there, looked up by bytes that are the same
pub absent : {X : Type 0} (names : List (List ℕ × X)) (name bytes : List ℕ) (es : List (Vec ℕ Global × X)) → shown es ≡ names → bytes ≡ name
    → named names name ≡ None → lookup (λ k. pointwise nat_eq bytes k.items) es ≡ None
absent names name bytes es v b none =
    ap (λ n. lookup (λ k. pointwise nat_eq n k.items) es) b ∙ sym (named-shown name es) ∙ ap (λ l. named l name) v ∙ none

-- one entry more
pub shown-push : {X : Type 0} (names : List (List ℕ × X)) (name : List ℕ) (key : Vec ℕ Global) (value : X) (es more : List (Vec ℕ Global × X)) → shown es ≡ names
    → key.items ≡ name → more ≡ es ++ (key, value) ∷ [] → shown more ≡ names ++ (name, value) ∷ []
shown-push names name key value es more v k e =
    ap shown e ∙ map-append (λ e. (e.0.items, e.1)) es ((key, value) ∷ []) ∙ ap (λ l. l ++ (key.items, value) ∷ []) v ∙ ap (λ n. names ++ (n, value) ∷ []) k
