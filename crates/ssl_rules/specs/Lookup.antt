-- Looking a name up.
use Rattle.std.specs.Prelude.{ℕ, Bool, nat_eq, List, Option}
use Rattle.std.specs.List.{list_any}
use Rattle.std.specs.Cmp.Lexicographic.{pointwise}
use Rattle.std.specs.Map.{lookup}

-- what a table has under a name, the first of it
abbrev pub named : {X : Type 0} → List (List ℕ × X) → List ℕ → Option X
named table name = lookup (pointwise nat_eq name) table

-- a name is one of these
abbrev pub is_among : List ℕ → List (List ℕ) → Bool
is_among name names = list_any (pointwise nat_eq name) names
