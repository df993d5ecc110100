-- One template more.
use Rattle.std.specs.Prelude.{ℕ, List, [], ◌∷◌, ◌++◌}
use Rattle.ssl_rules.specs.declared.tables.Own.{Own}
use Rattle.ssl_rules.specs.declared.tables.Tables.{Tables}
use Rattle.ssl_rules.specs.Names.{Scope}
use Rattle.ssl_rules.specs.Given.{Given, Made}

abbrev pub with_made : Given → Made → Given
with_made g m = record g { templates = g.templates ++ m ∷ [] }

-- the names of a line with these own names
abbrev pub scope_with : Tables → List (List ℕ × Own) → Scope
scope_with t own = record { tables = t; own = own }
