-- Which cells a procedure, with all that it calls, may read or assign.
use Rattle.std.specs.Prelude.{◌≡◌, ◌≢◌, ℕ, zero, suc, ◌+◌, ◌<◌, List, [], ◌∷◌, ◌++◌, map, length, Option, None, Some}
use Rattle.std.specs.List.{All, Contains}
use Rattle.std.specs.List.Sorted.{IsStrictlySortedBy}
use Rattle.std.specs.Ordering.{nat_cmp}
use Rattle.rtl_core.specs.declared.conv.Conv.{Conv}
use Rattle.rtl_core.specs.declared.conv.ServiceShape.{ServiceShape}
use Rattle.rtl_core.specs.declared.expr.Expr.{Expr}
use Rattle.rtl_core.specs.declared.machine.Machine.{Machine}
use Rattle.rtl_core.specs.declared.machine.WinShape.{WinShape}
use Rattle.rtl_core.specs.declared.point.Point.{Point}
use Rattle.rtl_core.specs.declared.transfer.Act.{Act}
use Rattle.rtl_core.specs.declared.transfer.Act.TheVariants.{SetCell, SetSlice, Store, Jump, Annul, Trap, Service, WinSave, WinRestore}
use Rattle.rtl_core.specs.declared.transfer.Transfer.{Transfer}
use Rattle.rtl_core.specs.Terms.{Term, Const, Cell, Load, Unary, Binary, Slice, Zext, Sext, Choice, term_of}
use Rattle.points.specs.declared.block.Block.{Block}
use Rattle.points.specs.declared.block.Block.TheVariants.{Inst, Outside, Illegal}
use Rattle.points.specs.declared.block.Next.TheVariants.{Table, CallsAny}
use Rattle.points.specs.declared.graph.Graph.{Graph}
use Rattle.points.specs.declared.graph.Summary.{Summary}
use Rattle.points.specs.Bodies.{Code, arrivals, Enters, Body, Procedure}
use Rattle.points.specs.Exactly.{IsExactly}

-- ---- the cells that an instruction names, and those that it may assign, whatever its guards

-- the cells of a term
abbrev pub term_cells : Term → List ℕ
term_cells (Const w n) = []
term_cells (Cell c) = c ∷ []
term_cells (Load b a) = term_cells a
term_cells (Unary op a) = term_cells a
term_cells (Binary op a b) = term_cells a ++ term_cells b
term_cells (Slice a lo hi) = term_cells a
term_cells (Zext w a) = term_cells a
term_cells (Sext w a) = term_cells a
term_cells (Choice c a b) = term_cells c ++ (term_cells a ++ term_cells b)

abbrev pub expr_cells : Expr → List ℕ
expr_cells e = term_cells (term_of e)

abbrev pub guard_cells : Option Expr → List ℕ
guard_cells None = []
guard_cells (Some e) = expr_cells e

-- so many cells from the first on
abbrev pub cells_in_row : (first count : ℕ) → List ℕ
cells_in_row first zero = []
cells_in_row first (suc n) = first ∷ cells_in_row (first + 1) n

-- the cells of register windows
abbrev pub window_cells : Option WinShape → List ℕ
window_cells None = []
window_cells (Some w) = cells_in_row w.out_first w.count ++ (cells_in_row w.local_first w.count ++ cells_in_row w.in_first w.count)

abbrev pub cell_if_any : Option ℕ → List ℕ
cell_if_any None = []
cell_if_any (Some c) = c ∷ []

-- the cells that a service assigns: its result and its error flag
abbrev pub answer_cells : Option ServiceShape → List ℕ
answer_cells None = []
answer_cells (Some shape) = shape.result ∷ cell_if_any shape.error

-- the cells that a service reads or assigns
abbrev pub service_cells : Option ServiceShape → List ℕ
service_cells None = []
service_cells (Some shape) = shape.number ∷ shape.arg_x ∷ shape.arg_y ∷ shape.arg_z ∷ answer_cells (Some shape)

-- the cells that an act names
abbrev pub act_names : Machine → Conv → Act → List ℕ
act_names m conv (SetCell c e) = c ∷ expr_cells e
act_names m conv (SetSlice c lo hi e) = c ∷ expr_cells e
act_names m conv (Store n a e) = expr_cells a ++ expr_cells e
act_names m conv (Jump e) = expr_cells e
act_names m conv Annul = []
act_names m conv (Trap e) = expr_cells e
act_names m conv Service = service_cells conv.service
act_names m conv WinSave = window_cells m.windows
act_names m conv WinRestore = window_cells m.windows

-- the cells that an act may assign
abbrev pub act_assigns : Machine → Conv → Act → List ℕ
act_assigns m conv (SetCell c e) = c ∷ []
act_assigns m conv (SetSlice c lo hi e) = c ∷ []
act_assigns m conv Service = answer_cells conv.service
act_assigns m conv WinSave = window_cells m.windows
act_assigns m conv WinRestore = window_cells m.windows
act_assigns m conv _ = []

abbrev pub transfers_name : Machine → Conv → List Transfer → List ℕ
transfers_name m conv [] = []
transfers_name m conv (t ∷ ts) = guard_cells t.guard ++ (act_names m conv t.act ++ transfers_name m conv ts)

abbrev pub transfers_assign : Machine → Conv → List Transfer → List ℕ
transfers_assign m conv [] = []
transfers_assign m conv (t ∷ ts) = act_assigns m conv t.act ++ transfers_assign m conv ts

-- the cells that what stands at an address names
abbrev pub block_names : Machine → Conv → Block → List ℕ
block_names m conv Outside = []
block_names m conv Illegal = []
block_names m conv (Inst inst kind) = transfers_name m conv inst.transfers

-- those of them that it may assign
abbrev pub block_assigns : Machine → Conv → Block → List ℕ
block_assigns m conv Outside = []
block_assigns m conv Illegal = []
block_assigns m conv (Inst inst kind) = transfers_assign m conv inst.transfers

-- ---- procedures and those that they enter

-- a program, with its roots, for a machine and its conventions
pub record Summarized : Type 0 where
  pub code : Code
  pub roots : List ℕ
  pub machine : Machine
  pub conv : Conv

-- any procedure can be entered at a point, by what its slot holds or by a step there: by a computed call, or by a computed plain jump without a table
pub data EntersAny (code : Code) (p : Point) : Type 0 where
  calls : {back : ℕ} → Contains (arrivals code p) (CallsAny back) → EntersAny code p
  jumps : {a : ℕ} → Contains (arrivals code p) (Table a) → code.table a ≡ [] → EntersAny code p

-- a procedure that the body of p can enter
pub data IsCallee (n : Summarized) (p : ℕ) : ℕ → Type 0 where
  given : {t : ℕ} {b : Point} → Body n.code p b → Enters n.code b t → IsCallee n p t
  any : {t : ℕ} {b : Point} → Body n.code p b → EntersAny n.code b → Procedure n.code n.roots t → IsCallee n p t

-- the procedures of p: itself, and all that can be entered from there
pub data Reaches (n : Summarized) (p : ℕ) : ℕ → Type 0 where
  itself : Reaches n p p
  through : {q t : ℕ} → Reaches n p q → IsCallee n q t → Reaches n p t

-- ---- summaries

-- p may read or assign a cell: an instruction in the body of a procedure of p names it, or the conventions say that one of them needs all
pub data HasRef (n : Summarized) (p c : ℕ) : Type 0 where
  named : {q : ℕ} {b : Point} → Reaches n p q → Body n.code q b → Contains (block_names n.machine n.conv (n.code.block_at b.pc)) c → n.machine.zero ≢ Some c → HasRef n p c
  whole : {q : ℕ} → Reaches n p q → Contains n.conv.wholes q → c < length n.machine.widths → n.machine.zero ≢ Some c → HasRef n p c

-- p may assign a cell
pub data HasMod (n : Summarized) (p c : ℕ) : Type 0 where
  assigned : {q : ℕ} {b : Point} → Reaches n p q → Body n.code q b → Contains (block_assigns n.machine n.conv (n.code.block_at b.pc)) c → n.machine.zero ≢ Some c → HasMod n p c

-- exactly the cells that its procedure may read or assign, and exactly those that it may assign, both ascending
pub record IsSummary (n : Summarized) (s : Summary) : Type 0 where
  pub refs_rise : IsStrictlySortedBy nat_cmp s.refs
  pub refs : IsExactly (HasRef n s.entry) s.refs
  pub mods_rise : IsStrictlySortedBy nat_cmp s.mods
  pub mods : IsExactly (HasMod n s.entry) s.mods

-- the summaries of a graph: one for each procedure, in their order
pub record AreSummaries (n : Summarized) (g : Graph) (summaries : List Summary) : Type 0 where
  pub entries : map (λ s. s.entry) summaries ≡ map (λ p. p.entry) g.procs
  pub each : All (IsSummary n) summaries

-- ---- whole registers

-- any cell but the zero cell
pub record IsMoving (m : Machine) (c : ℕ) : Type 0 where
  pub there : c < length m.widths
  pub moves : m.zero ≢ Some c

-- a summary of all cells, whatever its procedure does
pub record IsWholeSummary (m : Machine) (s : Summary) : Type 0 where
  pub refs_rise : IsStrictlySortedBy nat_cmp s.refs
  pub refs : IsExactly (IsMoving m) s.refs
  pub mods : s.mods ≡ s.refs

pub record AreWholeSummaries (m : Machine) (g : Graph) (summaries : List Summary) : Type 0 where
  pub entries : map (λ s. s.entry) summaries ≡ map (λ p. p.entry) g.procs
  pub each : All (IsWholeSummary m) summaries
