-- What lines add to the tables: cells, files, views and functions, each under the number that comes next.
use Rattle.std.specs.Prelude.{ℕ, zero, suc, ◌+◌, ◌-◌, List, [], ◌∷◌, ◌++◌, length, replicate, Option, Some, None}
use Rattle.rtl_core.specs.declared.machine.CellPart.{CellPart}
use Rattle.rtl_core.specs.declared.names.CellGroup.{CellGroup}
use Rattle.ssl_rules.specs.declared.tables.Meaning.TheVariants as meaning
use Rattle.ssl_rules.specs.declared.tables.Function.{Function}
use Rattle.ssl_rules.specs.declared.tables.Tables.{Tables}

-- before the first line
abbrev pub no_tables : Tables
no_tables = record { names = []; cells = []; widths = []; files = []; functions = [] }

-- a name for the cell that comes next, or for a file of that many
abbrev pub group_at : Tables → Option ℕ → CellGroup
group_at t count = record { first = length t.widths; count = count }

abbrev pub with_cell : Tables → List ℕ → ℕ → Tables
with_cell t name w = record t {
  names = t.names ++ (name, meaning.Cell (length t.widths)) ∷ [];
  cells = t.cells ++ (name, group_at t None) ∷ [];
  widths = t.widths ++ w ∷ [];
}

-- a name for the view that comes next
abbrev pub with_view : Tables → List ℕ → List CellPart → Tables
with_view t name parts = record t { names = t.names ++ (name, meaning.View (length t.files)) ∷ []; files = t.files ++ parts ∷ [] }

-- n whole cells of w bits from the first on
abbrev pub whole_cells : ℕ → ℕ → ℕ → List CellPart
whole_cells first w zero = []
whole_cells first w (suc n) = record { cell = first; lo = 0; hi = w - 1 } ∷ whole_cells (first + 1) w n

abbrev pub with_cells : Tables → List ℕ → ℕ → ℕ → Tables
with_cells t name n w = record t {
  names = t.names ++ (name, meaning.Cells (length t.files)) ∷ [];
  cells = t.cells ++ (name, group_at t (Some n)) ∷ [];
  widths = t.widths ++ replicate n w;
  files = t.files ++ whole_cells (length t.widths) w n ∷ [];
}

abbrev pub with_function : Tables → List ℕ → Function → Tables
with_function t name f = record t {
  names = t.names ++ (name, meaning.Function (length t.functions)) ∷ [];
  functions = t.functions ++ f ∷ [];
}
