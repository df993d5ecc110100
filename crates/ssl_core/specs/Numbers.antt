-- Constructors by their names.
use Rattle.std.specs.Prelude.{◌≡◌, ℕ, ◌+◌, List, [], ◌∷◌}
use Rattle.rtl_core.specs.declared.encodings.Coded.{Coded}
use Rattle.rtl_core.specs.declared.encodings.Encodings.{Encodings}
use Rattle.ssl_rules.specs.Lookup.{named}
use Rattle.ssl_rules.specs.Given.{constructor_named}

-- names with the numbers of constructors, counted from c on
abbrev pub numbered : ℕ → List Coded → List (List ℕ × ℕ)
numbered c [] = []
numbered c (k ∷ ks) = (k.name, c) ∷ numbered (c + 1) ks

-- each name stands for its constructor
pub record AreNumbered (numbers : List (List ℕ × ℕ)) (enc : Encodings) : Type 0 where
  pub found : (name : List ℕ) → named numbers name ≡ constructor_named enc name
