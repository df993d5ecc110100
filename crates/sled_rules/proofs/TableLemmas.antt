-- Names, as a map keeps them.
use Rattle.std.proofs.Common.{◌≡◌, ℕ, cond, List, [], ◌∷◌, ◌++◌, map, Option, Some, None, Bool, false, true, is_some, Vec, Global, nat_eq, IfSome, refl, sym, ap, subst, ◌∙◌}
use Rattle.std.specs.Option.{option_copied}
use Rattle.std.specs.Borrow.{Bor}
use Rattle.sled_rules.specs.Ranges.{IsMeaning}
use Rattle.std.proofs.lemmas.List.{map-append}
use Rattle.std.specs.Cmp.Lexicographic.{pointwise}
use Rattle.std.specs.Map.{lookup}
use Rattle.sled_rules.specs.declared.meaning.Meaning.{Meaning}
use Rattle.sled_rules.specs.Meanings.{Table, named, is_given}

-- the entries of a map as contracts see them
abbrev pub shown : List (Vec ℕ Global × Meaning) → Table
shown es = map (λ e. (e.0.items, e.1)) es

-- a look-up in the map
pub named-shown : (name : List ℕ) (es : List (Vec ℕ Global × Meaning)) → named (shown es) name ≡ lookup (λ k. pointwise nat_eq name k.items) es
named-shown name [] = refl
named-shown name (e ∷ es) = ap (cond (pointwise nat_eq name e.0.items) (Some e.1)) (named-shown name es)

pub none_from_test : (o : Option Meaning) → is_some o ≡ false → o ≡ None
none_from_test None h = refl
none_from_test (Some m) h = cc

-- a name that is not there, looked up by bytes that are the same
pub absent : (names : Table) (name bytes : List ℕ) (es : List (Vec ℕ Global × Meaning)) → shown es ≡ names → bytes ≡ name → is_given names name ≡ false
    → lookup (λ k. pointwise nat_eq bytes k.items) es ≡ None
absent names name bytes es v b none =
    ap (λ n. lookup (λ k. pointwise nat_eq n k.items) es) b ∙ sym (named-shown name es) ∙ ap (λ l. named l name) v ∙ none_from_test (named names name) none

-- one entry more
pub shown-push : (names : Table) (name : List ℕ) (key : Vec ℕ Global) (meaning : Meaning) (es more : List (Vec ℕ Global × Meaning)) → shown es ≡ names
    → key.items ≡ name → more ≡ es ++ (key, meaning) ∷ [] → shown more ≡ names ++ (name, meaning) ∷ []
shown-push names name key meaning es more v k e =
    ap shown e ∙ map-append (λ e. (e.0.items, e.1)) es ((key, meaning) ∷ []) ∙ ap (λ l. l ++ (key.items, meaning) ∷ []) v
    ∙ ap (λ n. names ++ (n, meaning) ∷ []) k

-- what holds of a value holds of a reference to it
pub within_reference : (o : Option (Bor Meaning)) (m : Option Meaning) → option_copied o ≡ m → IfSome m IsMeaning → IfSome o (λ r. IsMeaning r.now)
within_reference None m e h = tt
within_reference (Some r) m e h = let P : Option Meaning → Type 0 = λ v. IfSome v IsMeaning in subst P (sym e) h
