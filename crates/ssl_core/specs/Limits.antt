-- Room for cells, files, views and functions.
use Rattle.std.specs.Prelude.{ℕ, ◌+◌, ◌&&◌, nat_lt, nat_le, Bool, is_some, length}
use Rattle.ssl_syntax.specs.declared.line.CellName.{CellName}
use Rattle.ssl_rules.specs.Names.{cell_number}
use Rattle.ssl_rules.specs.Windows.{are_windows}
use Rattle.ssl_rules.specs.Given.{Given, shape_of}
use Rattle.ssl_rules.specs.declared.tables.Tables.{Tables}

-- at most 120 cells with n more
abbrev pub has_room_in : Tables → ℕ → Bool
has_room_in t n = nat_le (length t.widths + n) 120

-- at most 4,096 files, views and functions with one more
abbrev pub has_place_in : Tables → Bool
has_place_in t = nat_lt (length t.files + length t.functions) 4096

-- the cells of windows are there, and the windows in range
abbrev pub are_windows_of : Given → CellName → CellName → CellName → ℕ → Bool
are_windows_of g o l i n =
    (is_some (cell_number g.tables o) && (is_some (cell_number g.tables l) && is_some (cell_number g.tables i)))
    && are_windows g.tables g.zeroed (shape_of g.tables o l i n)
