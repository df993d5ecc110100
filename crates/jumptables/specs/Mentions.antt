-- Which cells instructions mention, as far as a partial run looks into them: it looks into no store and no trap.
use Rattle.std.specs.Prelude.{◌≡◌, ◌≢◌, ◌<◌, ◌^◌, ℕ, Bool, true, false, List, [], ◌∷◌, length, replicate, slice_index, slice_set, Option, None, Some}
use Rattle.rtl_core.specs.declared.expr.Expr.{Expr}
use Rattle.rtl_core.specs.declared.inst.GroundInst.{GroundInst}
use Rattle.rtl_core.specs.declared.transfer.Act.{Act}
use Rattle.rtl_core.specs.declared.transfer.Act.TheVariants.{SetCell, SetSlice, Store, Jump, Annul, Trap, Service, WinSave, WinRestore}
use Rattle.rtl_core.specs.declared.transfer.Transfer.{Transfer}
use Rattle.rtl_core.specs.Terms.{Term, Const, Cell, Load, Unary, Binary, Slice, Zext, Sext, Choice, term_of}
use Rattle.points.specs.Machine.{Setting}
use Rattle.points.specs.PartialRuns.{PartialState, PartialEnd, with_zero_known, all_partly_done, ended_at, partial_end}

-- ---- a cell that is not mentioned

abbrev pub IsApart : ℕ → Term → Type 0
IsApart c (Const w n) = Unit {0}
IsApart c (Cell k) = k ≢ c
IsApart c (Load b a) = IsApart c a
IsApart c (Unary op a) = IsApart c a
IsApart c (Binary op a b) = IsApart c a × IsApart c b
IsApart c (Slice a lo hi) = IsApart c a
IsApart c (Zext w a) = IsApart c a
IsApart c (Sext w a) = IsApart c a
IsApart c (Choice g a b) = IsApart c g × IsApart c a × IsApart c b

abbrev pub IsApartGuard : ℕ → Option Expr → Type 0
IsApartGuard c None = Unit {0}
IsApartGuard c (Some e) = IsApart c (term_of e)

abbrev pub IsApartAct : ℕ → Act → Type 0
IsApartAct c (SetCell k e) = (k ≢ c) × IsApart c (term_of e)
IsApartAct c (SetSlice k lo hi e) = (k ≢ c) × IsApart c (term_of e)
IsApartAct c (Store n a e) = Unit {0}
IsApartAct c (Jump e) = IsApart c (term_of e)
IsApartAct c Annul = Unit {0}
IsApartAct c (Trap e) = Unit {0}
IsApartAct c Service = Unit {0}
IsApartAct c WinSave = Unit {0}
IsApartAct c WinRestore = Unit {0}

abbrev pub AreApart : ℕ → List Transfer → Type 0
AreApart c [] = Unit {0}
AreApart c (t ∷ ts) = IsApartGuard c t.guard × IsApartAct c t.act × AreApart c ts

abbrev pub IsApartChain : ℕ → List GroundInst → Type 0
IsApartChain c [] = Unit {0}
IsApartChain c (i ∷ is) = AreApart c i.transfers × IsApartChain c is

-- ---- a run that knows the zero cell alone

abbrev pub knowing_zero : Setting → PartialState
knowing_zero s = record {
  values = replicate (length s.machine.widths) 0;
  known = with_zero_known s.machine.zero (replicate (length s.machine.widths) false);
  taken = false;
  untaken = false;
  passes = false;
  target = None;
}

abbrev pub idle_end : Setting → List GroundInst → GroundInst → PartialEnd
idle_end s before jump = ended_at s jump (all_partly_done s before (knowing_zero s))

-- a chain that does not mention a cell comes to the same for each number that fits the cell
abbrev pub UnmentionedIsIdle : Type 0
UnmentionedIsIdle = (s : Setting) (before : List GroundInst) (jump : GroundInst) (c x : ℕ) → IsApartChain c before → AreApart c jump.transfers → x < 2 ^ slice_index s.machine.widths c
    → partial_end s before jump c x ≡ idle_end s before jump

-- ---- a flag for each cell that is mentioned

abbrev pub marks : Term → List Bool → List Bool
marks (Const w n) flags = flags
marks (Cell c) flags = slice_set flags c true
marks (Load b a) flags = marks a flags
marks (Unary op a) flags = marks a flags
marks (Binary op a b) flags = marks b (marks a flags)
marks (Slice a lo hi) flags = marks a flags
marks (Zext w a) flags = marks a flags
marks (Sext w a) flags = marks a flags
marks (Choice c a b) flags = marks b (marks a (marks c flags))

abbrev pub marks_guard : Option Expr → List Bool → List Bool
marks_guard None flags = flags
marks_guard (Some e) flags = marks (term_of e) flags

abbrev pub marks_act : Act → List Bool → List Bool
marks_act (SetCell c e) flags = marks (term_of e) (slice_set flags c true)
marks_act (SetSlice c lo hi e) flags = marks (term_of e) (slice_set flags c true)
marks_act (Store n a e) flags = flags
marks_act (Jump e) flags = marks (term_of e) flags
marks_act Annul flags = flags
marks_act (Trap e) flags = flags
marks_act Service flags = flags
marks_act WinSave flags = flags
marks_act WinRestore flags = flags

abbrev pub marks_all : List Transfer → List Bool → List Bool
marks_all [] flags = flags
marks_all (t ∷ ts) flags = marks_all ts (marks_act t.act (marks_guard t.guard flags))

-- the flags of an instruction of a machine with n cells
abbrev pub mentioned_of : ℕ → GroundInst → List Bool
mentioned_of n i = marks_all i.transfers (replicate n false)
