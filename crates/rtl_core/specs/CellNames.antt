-- What names of cells stand for.
use Rattle.std.specs.Prelude.{ℕ, ◌+◌, ◌<◌, nat_eq, nat_lt, if◌then◌else◌, List, Option, Some, None, option_and_then}
use Rattle.std.specs.Cmp.Lexicographic.{pointwise}
use Rattle.std.specs.Map.{lookup}
use Rattle.rtl_core.specs.declared.names.CellGroup.{CellGroup}

-- how many cells a name stands for: one, or those of a file
abbrev pub cells_in : CellGroup → ℕ
cells_in group = counted group.count
  where
    counted : Option ℕ → ℕ
    counted None = 1
    counted (Some count) = count

-- every cell of a group is numbered below 120
abbrev pub AreCells : CellGroup → Type 0
AreCells group = (i : ℕ) → i < cells_in group → group.first + i < 120

-- what a name was given
abbrev pub given : List (List ℕ × CellGroup) → List ℕ → Option CellGroup
given names name = lookup (pointwise nat_eq name) names

-- the cell of a group: one cell has no index, a file has one for each index below its count
abbrev pub cell_at : CellGroup → Option ℕ → Option ℕ
cell_at group index = cell group.count index
  where
    cell : Option ℕ → Option ℕ → Option ℕ
    cell None None = Some group.first
    cell None (Some i) = None
    cell (Some count) None = None
    cell (Some count) (Some i) = if nat_lt i count then Some (group.first + i) else None

-- the cell of a name, with an index where it is a file's
abbrev pub cell_named : List (List ℕ × CellGroup) → List ℕ → Option ℕ → Option ℕ
cell_named names name index = option_and_then (λ group. cell_at group index) (given names name)
