-- Cells in the C text: the zero cell is read as the number 0, and is never assigned.
use Rattle.std.specs.Prelude.{ℕ, ◌==◌, if◌then◌else◌, Option, Some, None, List, ◌∷◌}
use Rattle.c_lang.specs.declared.tree.CExpr.{CExpr}
use Rattle.c_lang.specs.declared.tree.CExpr.TheVariants.{Num, Of}
use Rattle.c_lang.specs.declared.tree.Stmt.{Stmt}
use Rattle.c_lang.specs.declared.tree.Stmt.TheVariants.{Set}
use Rattle.c_lang.specs.declared.tree.Var.TheVariants.{Cell}

-- a cell as an expression
abbrev pub cell_c : Option ℕ → ℕ → CExpr
cell_c None c = Of (Cell c)
cell_c (Some zero_cell) c = if c == zero_cell then Num 0 else Of (Cell c)

-- a value assigned to a cell, before the rest
abbrev pub set_c : Option ℕ → ℕ → CExpr → List Stmt → List Stmt
set_c None c e rest = Set (Cell c) e ∷ rest
set_c (Some zero_cell) c e rest = if c == zero_cell then rest else Set (Cell c) e ∷ rest
