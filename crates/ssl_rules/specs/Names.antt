-- What names stand for on a line: what earlier lines gave, and the line's own operands or parameters.
use Rattle.std.specs.Prelude.{ℕ, Bool, false, List, slice_get, is_some, is_none, unwrap_or, Option, Some, None, option_map, option_and_then}
use Rattle.std.specs.Option.{option_or}
use Rattle.ssl_syntax.specs.declared.line.CellName.{CellName}
use Rattle.rtl_core.specs.declared.machine.CellPart.{CellPart}
use Rattle.ssl_rules.specs.declared.tables.Meaning.{Meaning}
use Rattle.ssl_rules.specs.declared.tables.Meaning.TheVariants as meaning
use Rattle.ssl_rules.specs.declared.tables.Own.{Own}
use Rattle.ssl_rules.specs.declared.tables.Own.TheVariants.{Field}
use Rattle.ssl_rules.specs.declared.tables.Lone.{Lone}
use Rattle.ssl_rules.specs.declared.tables.Lone.TheVariants as lone
use Rattle.ssl_rules.specs.declared.tables.Function.{Function}
use Rattle.ssl_rules.specs.declared.tables.Tables.{Tables}
use Rattle.ssl_rules.specs.Lookup.{named}

-- where the names of a line are looked up
pub record Scope : Type 0 where
  pub tables : Tables
  pub own : List (List ℕ × Own)

-- ---- names that earlier lines gave

abbrev pub cell_of_meaning : Meaning → Option ℕ
cell_of_meaning (meaning.Cell c) = Some c
cell_of_meaning _ = None

abbrev pub file_of_meaning : Meaning → Option ℕ
file_of_meaning (meaning.Cells f) = Some f
file_of_meaning (meaning.View f) = Some f
file_of_meaning _ = None

abbrev pub function_of_meaning : Meaning → Option ℕ
function_of_meaning (meaning.Function f) = Some f
function_of_meaning _ = None

-- the number of a file or view, with its parts
abbrev pub file_named : Tables → List ℕ → Option ℕ
file_named t name = option_and_then file_of_meaning (named t.names name)

abbrev pub parts_named : Tables → List ℕ → Option (List CellPart)
parts_named t name = option_and_then (slice_get t.files) (file_named t name)

-- the part of a file at a number; none where the file has fewer
abbrev pub part_named : Tables → List ℕ → ℕ → Option CellPart
part_named t name index = option_and_then (λ parts. slice_get parts index) (parts_named t name)

abbrev pub function_named : Tables → List ℕ → Option Function
function_named t name = option_and_then (slice_get t.functions) (option_and_then function_of_meaning (named t.names name))

-- ---- a CELL: a cell's name alone, or a number behind the name of a file of cells

-- a name of this meaning is a CELL, with or without an index; a view's is none
abbrev pub has_cell_form : Meaning → Option ℕ → Bool
has_cell_form (meaning.Cell c) index = is_none index
has_cell_form (meaning.Cells f) index = is_some index
has_cell_form _ index = false

abbrev pub is_cell : Tables → CellName → Bool
is_cell t cell = unwrap_or (option_map (λ m. has_cell_form m cell.index) (named t.names cell.name)) false

abbrev pub cell_of_file : Tables → ℕ → ℕ → Option ℕ
cell_of_file t f i = option_map (λ p. p.cell) (option_and_then (λ parts. slice_get parts i) (slice_get t.files f))

-- the cell of a meaning; none where the index is not below the file's count
abbrev pub cell_at : Tables → Option ℕ → Meaning → Option ℕ
cell_at t None (meaning.Cell c) = Some c
cell_at t (Some i) (meaning.Cells f) = cell_of_file t f i
cell_at t _ _ = None

abbrev pub cell_number : Tables → CellName → Option ℕ
cell_number t cell = option_and_then (cell_at t cell.index) (named t.names cell.name)

-- ---- names of the line

-- a field operand's place and width
abbrev pub field_of : Own → Option (ℕ × ℕ)
field_of (Field k w) = Some (k, w)
field_of _ = None

abbrev pub field_named : Scope → List ℕ → Option (ℕ × ℕ)
field_named s name = option_and_then field_of (named s.own name)

-- what a name without brackets stands for: an operand, a parameter or a cell
abbrev pub lone_named : Scope → List ℕ → Option Lone
lone_named s name = option_or (option_map lone.Own (named s.own name)) (option_map lone.Cell (option_and_then cell_of_meaning (named s.tables.names name)))
