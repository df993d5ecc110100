-- Which cells the transfers of an instruction name.
use Rattle.std.specs.Prelude.{◌≡◌, ℕ, ◌+◌, ◌==◌, ◌||◌, ◌<◌, ◌≤◌, Bool, true, false, Option, Some, None, List, [], ◌∷◌, length}
use Rattle.rtl_core.specs.declared.expr.Expr.{Expr}
use Rattle.rtl_core.specs.declared.machine.Machine.{Machine}
use Rattle.rtl_core.specs.declared.machine.WinShape.{WinShape}
use Rattle.rtl_core.specs.declared.transfer.Act.{Act}
use Rattle.rtl_core.specs.declared.transfer.Act.TheVariants.{SetCell, SetSlice, Store, Jump, Annul, Trap, Service, WinSave, WinRestore}
use Rattle.rtl_core.specs.declared.transfer.Transfer.{Transfer}
use Rattle.rtl_core.specs.Terms.{Term, Const, Cell, Load, Unary, Binary, Slice, Zext, Sext, Choice, term_of}

-- whether transfers may name a cell: the zero cell, or one of the named cells
abbrev pub is_nameable : Option ℕ → (ℕ → Bool) → ℕ → Bool
is_nameable None named c = named c
is_nameable (Some zero_cell) named c = (c == zero_cell) || named c

-- each cell in a term passes the test
abbrev pub NamesOnly : (ℕ → Bool) → Term → Type 0
NamesOnly may (Const w n) = Unit {0}
NamesOnly may (Cell c) = may c ≡ true
NamesOnly may (Load b a) = NamesOnly may a
NamesOnly may (Unary op a) = NamesOnly may a
NamesOnly may (Binary op a b) = NamesOnly may a × NamesOnly may b
NamesOnly may (Slice a lo hi) = NamesOnly may a
NamesOnly may (Zext w a) = NamesOnly may a
NamesOnly may (Sext w a) = NamesOnly may a
NamesOnly may (Choice c a b) = NamesOnly may c × NamesOnly may a × NamesOnly may b

-- each of n cells from the first on passes the test
pub record GroupOnly (may : ℕ → Bool) (first n : ℕ) : Type 0 where
  pub each : (c : ℕ) → first ≤ c → c < first + n → may c ≡ true

-- each cell of a window passes the test
abbrev pub WindowOnly : (ℕ → Bool) → Option WinShape → Type 0
WindowOnly may None = Unit {0}
WindowOnly may (Some w) = GroupOnly may w.out_first w.count × GroupOnly may w.local_first w.count × GroupOnly may w.in_first w.count

-- each cell that an act names passes the test
abbrev pub ActOnly : Machine → (ℕ → Bool) → Act → Type 0
ActOnly m may (SetCell c e) = (may c ≡ true) × NamesOnly may (term_of e)
ActOnly m may (SetSlice c lo hi e) = (may c ≡ true) × NamesOnly may (term_of e)
ActOnly m may (Store b a e) = NamesOnly may (term_of a) × NamesOnly may (term_of e)
ActOnly m may (Jump e) = NamesOnly may (term_of e)
ActOnly m may Annul = Unit {0}
ActOnly m may (Trap e) = NamesOnly may (term_of e)
ActOnly m may Service = Unit {0}
ActOnly m may WinSave = WindowOnly may m.windows
ActOnly m may WinRestore = WindowOnly may m.windows

abbrev pub GuardOnly : (ℕ → Bool) → Option Expr → Type 0
GuardOnly may None = Unit {0}
GuardOnly may (Some guard) = NamesOnly may (term_of guard)

-- each cell that the transfers name passes the test
abbrev pub TransfersOnly : Machine → (ℕ → Bool) → List Transfer → Type 0
TransfersOnly m may [] = Unit {0}
TransfersOnly m may (t ∷ ts) = GuardOnly may t.guard × ActOnly m may t.act × TransfersOnly m may ts

-- all cells but the zero cell are named
pub record NamesAll (m : Machine) (named : ℕ → Bool) : Type 0 where
  pub each : (c : ℕ) → c < length m.widths → is_nameable m.zero named c ≡ true
  pub never_zero : (c : ℕ) → m.zero ≡ Some c → named c ≡ false

-- each cell that the transfers and window moves name is named, but for the zero cell, which is not
pub record IsNaming (m : Machine) (ts : List Transfer) (named : ℕ → Bool) : Type 0 where
  pub each : TransfersOnly m (is_nameable m.zero named) ts
  pub never_zero : (c : ℕ) → m.zero ≡ Some c → named c ≡ false
