-- What names stand for, in the order in which a text gives them.
use Rattle.std.specs.Prelude.{ℕ, ◌||◌, nat_eq, Bool, true, false, List, [], ◌∷◌, ◌++◌, Option, Some, None, is_some, codes}
use Rattle.std.specs.List.{list_any}
use Rattle.std.specs.Map.{lookup}
use Rattle.std.specs.Cmp.Lexicographic.{pointwise}
use Rattle.sled_rules.specs.declared.meaning.Meaning.{Meaning}
use Rattle.sled_rules.specs.declared.meaning.Meaning.TheVariants as means

-- names with what each stands for
abbrev pub Table : Type 0
Table = List (List ℕ × Meaning)

-- what a name stands for, where it is given
abbrev pub named : Table → List ℕ → Option Meaning
named names name = lookup (pointwise nat_eq name) names

abbrev pub is_given : Table → List ℕ → Bool
is_given names name = is_some (named names name)

-- the words of expressions and of acts, which stand for nothing else
abbrev pub expression_words : List (List ℕ)
expression_words = codes "m8" ∷ codes "m16" ∷ codes "m32" ∷ codes "m64" ∷ codes "zx" ∷ codes "sx" ∷ codes "bits" ∷ codes "if" ∷ []

abbrev pub act_words : List (List ℕ)
act_words = codes "jump" ∷ codes "annul" ∷ codes "trap" ∷ codes "service" ∷ codes "wsave" ∷ codes "wrestore" ∷ codes "none" ∷ []

abbrev pub is_reserved : List ℕ → Bool
is_reserved name = list_any (pointwise nat_eq name) expression_words || list_any (pointwise nat_eq name) act_words

-- a name that can't be given: it is given already, or reserved
abbrev pub is_taken : Table → List ℕ → Bool
is_taken names name = is_given names name || is_reserved name

abbrev pub is_field : Option Meaning → Bool
is_field (Some (means.Field f)) = true
is_field _ = false

abbrev pub is_type : Option Meaning → Bool
is_type (Some (means.Type t)) = true
is_type _ = false
