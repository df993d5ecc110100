-- When terms and transfers are well formed for a machine, and when cells fit it.
use Rattle.std.specs.Prelude.{◌≡◌, ℕ, ◌+◌, ◌-◌, ◌*◌, ◌^◌, ◌<◌, ◌≤◌, Bool, true, false, List, [], ◌∷◌, length, map, count_by, slice_index, Option, Some, None, All, is_some, IsTrue}
use Rattle.rtl_core.specs.declared.expr.Expr.{Expr}
use Rattle.rtl_core.specs.declared.machine.Machine.{Machine}
use Rattle.rtl_core.specs.declared.transfer.Act.{Act}
use Rattle.rtl_core.specs.declared.transfer.Act.TheVariants.{SetCell, SetSlice, Store, Jump, Annul, Trap, Service, WinSave, WinRestore}
use Rattle.rtl_core.specs.declared.transfer.Transfer.{Transfer}
use Rattle.rtl_core.specs.Access.{is_size}
use Rattle.rtl_core.specs.Terms.{Term, Const, Cell, Load, Unary, Binary, Slice, Zext, Sext, Choice, term_of, width_of}

-- a width is from 1 to 64 bits
abbrev pub IsWidth : ℕ → Type 0
IsWidth w = (1 ≤ w) × (w ≤ 64)

-- a term over cells of these widths: numbers fit, cells are there, widths agree where they have to
abbrev pub IsSoundTerm : List ℕ → Term → Type 0
IsSoundTerm widths (Const w n) = IsWidth w × (n < 2 ^ w)
IsSoundTerm widths (Cell c) = c < length widths
IsSoundTerm widths (Load b a) = IsSoundTerm widths a × (width_of widths a ≡ 32) × (is_size b ≡ true)
IsSoundTerm widths (Unary op a) = IsSoundTerm widths a
IsSoundTerm widths (Binary op a b) = IsSoundTerm widths a × IsSoundTerm widths b × (width_of widths b ≡ width_of widths a)
IsSoundTerm widths (Slice a lo hi) = IsSoundTerm widths a × (lo ≤ hi) × (hi < width_of widths a)
IsSoundTerm widths (Zext w a) = IsSoundTerm widths a × (width_of widths a ≤ w) × (w ≤ 64)
IsSoundTerm widths (Sext w a) = IsSoundTerm widths a × (width_of widths a ≤ w) × (w ≤ 64)
IsSoundTerm widths (Choice c a b) =
    IsSoundTerm widths c × IsSoundTerm widths a × IsSoundTerm widths b × (width_of widths c ≡ 1) × (width_of widths b ≡ width_of widths a)

-- an expression that is sound and has this width
abbrev pub HasWidth : List ℕ → Expr → ℕ → Type 0
HasWidth widths e w = IsSoundTerm widths (term_of e) × (width_of widths (term_of e) ≡ w)

-- an act: what it assigns is there, and each part has the width that its place asks for
abbrev pub IsSoundAct : Machine → Act → Type 0
IsSoundAct m (SetCell c e) = (c < length m.widths) × HasWidth m.widths e (slice_index m.widths c)
IsSoundAct m (SetSlice c lo hi e) = (c < length m.widths) × (lo ≤ hi) × (hi < slice_index m.widths c) × HasWidth m.widths e (hi + 1 - lo)
IsSoundAct m (Store n a e) = (is_size n ≡ true) × HasWidth m.widths a 32 × HasWidth m.widths e (8 * n)
IsSoundAct m (Jump e) = HasWidth m.widths e 32
IsSoundAct m Annul = Unit {0}
IsSoundAct m (Trap e) = HasWidth m.widths e 32
IsSoundAct m Service = Unit {0}
IsSoundAct m WinSave = IsTrue (is_some m.windows)
IsSoundAct m WinRestore = IsTrue (is_some m.windows)

-- a guard is 1 bit
abbrev pub IsSoundGuard : List ℕ → Option Expr → Type 0
IsSoundGuard widths None = Unit {0}
IsSoundGuard widths (Some guard) = HasWidth widths guard 1

pub record IsSoundTransfer (m : Machine) (t : Transfer) : Type 0 where
  pub guard : IsSoundGuard m.widths t.guard
  pub act : IsSoundAct m t.act

-- the kinds of acts that an instruction does at most once
abbrev pub is_jump : Act → Bool
is_jump (Jump e) = true
is_jump _ = false

abbrev pub is_annul : Act → Bool
is_annul Annul = true
is_annul _ = false

abbrev pub is_service : Act → Bool
is_service Service = true
is_service _ = false

abbrev pub moves_window : Act → Bool
moves_window WinSave = true
moves_window WinRestore = true
moves_window _ = false

-- nothing stands behind a service
abbrev pub IsServiceLast : List Act → Type 0
IsServiceLast [] = Unit {0}
IsServiceLast (act ∷ []) = Unit {0}
IsServiceLast (act ∷ next ∷ acts) = (is_service act ≡ false) × IsServiceLast (next ∷ acts)

-- the transfers of one instruction
pub record AreSoundTransfers (m : Machine) (ts : List Transfer) : Type 0 where
  pub each : All (IsSoundTransfer m) ts
  pub one_jump : count_by is_jump (map (λ t. t.act) ts) ≤ 1
  pub one_annul : count_by is_annul (map (λ t. t.act) ts) ≤ 1
  pub one_service : count_by is_service (map (λ t. t.act) ts) ≤ 1
  pub one_move : count_by moves_window (map (λ t. t.act) ts) ≤ 1
  pub service_last : IsServiceLast (map (λ t. t.act) ts)

-- the widths of a machine's cells
pub record AreWidths (widths : List ℕ) : Type 0 where
  pub each : (c : ℕ) → c < length widths → IsWidth (slice_index widths c)

-- one value for each cell, each below 2 to its width, and 0 in the zero cell
pub record Fit (m : Machine) (cells : List ℕ) : Type 0 where
  pub count : length cells ≡ length m.widths
  pub each : (c : ℕ) → c < length m.widths → slice_index cells c < 2 ^ slice_index m.widths c
  pub zeroed : (c : ℕ) → m.zero ≡ Some c → slice_index cells c ≡ 0
