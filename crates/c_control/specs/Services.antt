-- The service of an instruction in the C text.
use Rattle.std.specs.Prelude.{ℕ, Bool, true, List, [], ◌∷◌, Option, Some, None}
use Rattle.std.specs.List.{list_any}
use Rattle.rtl_core.specs.declared.conv.Conv.{Conv}
use Rattle.rtl_core.specs.declared.conv.ServiceShape.{ServiceShape}
use Rattle.rtl_core.specs.declared.machine.Machine.{Machine}
use Rattle.rtl_core.specs.declared.transfer.Act.{Act}
use Rattle.rtl_core.specs.declared.transfer.Transfer.{Transfer}
use Rattle.rtl_core.specs.SoundTerms.{is_service}
use Rattle.c_lang.specs.declared.tree.CExpr.TheVariants.{Of}
use Rattle.c_lang.specs.declared.tree.Stmt.{Stmt}
use Rattle.c_lang.specs.declared.tree.Stmt.TheVariants.{If, Serve}
use Rattle.c_lang.specs.declared.tree.Var.TheVariants.{Temp, ServeR, ServeE}
use Rattle.c_lower.specs.Cells.{cell_c, set_c}

-- whether some transfer does such an act
abbrev pub does : (Act → Bool) → List Transfer → Bool
does kind ts = list_any (λ t. kind t.act) ts

-- the error flag of a service into its cell, where there is one
abbrev pub flag_c : Option ℕ → Option ℕ → List Stmt → List Stmt
flag_c zero_cell None rest = rest
flag_c zero_cell (Some c) rest = set_c zero_cell c (Of ServeE) rest

-- the answer of a service into its cells
abbrev pub answer_c : Option ℕ → ServiceShape → List Stmt → List Stmt
answer_c zero_cell shape rest = set_c zero_cell shape.result (Of ServeR) (flag_c zero_cell shape.error rest)

-- a service, and its answer into its cells
abbrev pub service_c : Option ℕ → ServiceShape → List Stmt → List Stmt
service_c zero_cell shape rest =
    Serve (cell_c zero_cell shape.number) (cell_c zero_cell shape.arg_x) (cell_c zero_cell shape.arg_y) (cell_c zero_cell shape.arg_z) ∷ answer_c zero_cell shape rest

-- the service where one is due, of an instruction that can have one
abbrev pub service_due_c : Option ℕ → Bool → Option ServiceShape → List Stmt → List Stmt
service_due_c zero_cell true (Some shape) rest = If (Of (Temp 3)) (service_c zero_cell shape []) ∷ rest
service_due_c zero_cell can shape rest = rest

-- the service of an instruction's transfers
abbrev pub served_c : Machine → Conv → List Transfer → List Stmt → List Stmt
served_c m conv ts rest = service_due_c m.zero (does is_service ts) conv.service rest
