-- Names of cells, as a map keeps them.
use Rattle.std.proofs.Common.{◌≡◌, ℕ, cond, List, [], ◌∷◌, ◌++◌, map, Some, None, Vec, Global, nat_eq, refl, sym, ap, ◌∙◌}
use Rattle.std.proofs.lemmas.List.{map-append}
use Rattle.std.specs.Cmp.Lexicographic.{pointwise}
use Rattle.std.specs.Map.{lookup}
use Rattle.rtl_core.specs.declared.names.CellGroup.{CellGroup}
use Rattle.rtl_core.specs.CellNames.{given}

-- the entries of a map as contracts see them
abbrev pub shown : List (Vec ℕ Global × CellGroup) → List (List ℕ × CellGroup)
shown es = map (λ e. (e.0.items, e.1)) es

-- a look-up in the map
pub given-shown : (name : List ℕ) (es : List (Vec ℕ Global × CellGroup)) → given (shown es) name ≡ lookup (λ k. pointwise nat_eq name k.items) es
given-shown name [] = refl
given-shown name (e ∷ es) = ap (cond (pointwise nat_eq name e.0.items) (Some e.1)) (given-shown name es)

-- a name that is not there, looked up by bytes that are the same
pub absent : (names : List (List ℕ × CellGroup)) (name bytes : List ℕ) (es : List (Vec ℕ Global × CellGroup)) → shown es ≡ names → bytes ≡ name
    → given names name ≡ None → lookup (λ k. pointwise nat_eq bytes k.items) es ≡ None
absent names name bytes es v b none =
    ap (λ n. lookup (λ k. pointwise nat_eq n k.items) es) b ∙ sym (given-shown name es) ∙ ap (λ l. given l name) v ∙ none

-- one entry more
pub shown-push : (names : List (List ℕ × CellGroup)) (name : List ℕ) (key : Vec ℕ Global) (group : CellGroup) (es more : List (Vec ℕ Global × CellGroup)) → shown es ≡ names
    → key.items ≡ name → more ≡ es ++ (key, group) ∷ [] → shown more ≡ names ++ (name, group) ∷ []
shown-push names name key group es more v k e =
    ap shown e ∙ map-append (λ e. (e.0.items, e.1)) es ((key, group) ∷ []) ∙ ap (λ l. l ++ (key.items, group) ∷ []) v ∙ ap (λ n. names ++ (n, group) ∷ []) k
