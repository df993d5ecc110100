-- Entries of which the first of each name counts.
use Rattle.std.specs.Prelude.{ℕ, is_some, if◌then◌else◌, List, [], ◌∷◌, ◌++◌}
use Rattle.ssl_rules.specs.Lookup.{named}

-- an entry more, unless its name is there
abbrev pub with_new : {X : Type 0} → List (List ℕ × X) → List ℕ → X → List (List ℕ × X)
with_new table name x = if is_some (named table name) then table else table ++ (name, x) ∷ []

-- a table with entries more, each unless its name is there
abbrev pub kept : {X : Type 0} → List (List ℕ × X) → List (List ℕ × X) → List (List ℕ × X)
kept table [] = table
kept table (e ∷ es) = kept (with_new table e.0 e.1) es
