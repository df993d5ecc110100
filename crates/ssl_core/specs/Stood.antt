-- What the constructors of a type stand for, once each has a template.
use Rattle.std.specs.Prelude.{◌≡◌, ℕ, true, if◌then◌else◌, Option, Some, None}
use Rattle.std.specs.List.{list_all}
use Rattle.rtl_core.specs.declared.encodings.Encodings.{Encodings}
use Rattle.ssl_rules.specs.declared.tables.Stands.{Stands}
use Rattle.ssl_rules.specs.Given.{Given, constructors_of, has_template, stands_for}

-- what they stand for, where each has a template
abbrev pub known_stands : Encodings → Given → ℕ → Option Stands
known_stands enc g t = if list_all (has_template g) (constructors_of enc t) then Some (stands_for g enc t) else None

-- each has a template, and they stand for this
pub record AreStood (enc : Encodings) (g : Given) (t : ℕ) (s : Stands) : Type 0 where
  pub all : list_all (has_template g) (constructors_of enc t) ≡ true
  pub same : s ≡ stands_for g enc t
