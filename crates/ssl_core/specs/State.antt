-- What code keeps of what lines give.
use Rattle.std.specs.Prelude.{◌≡◌, ℕ, List, slice_get, unwrap_or, length, Some, None}
use Rattle.rtl_core.specs.CellNames.{given}
use Rattle.rtl_core.specs.declared.encodings.Encodings.{Encodings}
use Rattle.ssl_rules.specs.declared.tables.Tables.{Tables}
use Rattle.ssl_rules.specs.Lookup.{named}
use Rattle.ssl_rules.specs.Given.{Given, type_width}
use Rattle.ssl_rules.specs.declared.tables.Stands.{Stands}
use Rattle.ssl_core.specs.Stood.{AreStood}
use Rattle.ssl_core.specs.Typing.{AreTyped}
use Rattle.ssl_core.specs.Shown.{made_list}
use Rattle.ssl_core.specs.declared.given.Given.{Given as State}

-- what lines give, as code keeps it
abbrev pub shown : State → Given
shown g = record { align = g.align; delay = g.delay; zeroed = g.zeroed; windows = g.windows; tables = g.tables; templates = made_list g.templates }

-- names of cells are names
pub record AreCellsNamed (t : Tables) : Type 0 where
  pub named_too : (name : List ℕ) → named t.names name ≡ None → given t.cells name ≡ None

-- names of cells are names; by each constructor stands its type; by each type stands the width of its first template,
-- and what its constructors stand for, where each has a template
pub record Holds (enc : Encodings) (g : State) : Type 0 where
  pub cells : AreCellsNamed g.tables
  pub count : length g.widths ≡ length enc.types
  pub types : AreTyped enc g.types
  pub stood : (t : ℕ) (s : Stands) → slice_get g.stands t ≡ Some (Some s) → AreStood enc (shown g) t s
  pub widths : (t : ℕ) → unwrap_or (slice_get g.widths t) None ≡ type_width (shown g) enc t
