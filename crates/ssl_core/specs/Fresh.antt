-- Names that are free.
use Rattle.std.specs.Prelude.{ℕ, nat_eq, ◌&&◌, not, Bool, true, is_none, List, [], ◌∷◌}
use Rattle.std.specs.List.{list_any}
use Rattle.std.specs.Cmp.Lexicographic.{pointwise}
use Rattle.ssl_syntax.specs.Words.{is_free}
use Rattle.ssl_rules.specs.declared.tables.Meaning.{Meaning}
use Rattle.ssl_rules.specs.Lookup.{named}

-- no earlier line gives a name, and it is not reserved
abbrev pub is_fresh : List (List ℕ × Meaning) → List ℕ → Bool
is_fresh names name = is_none (named names name) && is_free name

-- names that are free, each another than those before it
abbrev pub are_fresh : List (List ℕ × Meaning) → List (List ℕ) → List (List ℕ) → Bool
are_fresh names before [] = true
are_fresh names before (n ∷ ns) = (is_fresh names n && not (list_any (pointwise nat_eq n) before)) && are_fresh names (n ∷ before) ns
