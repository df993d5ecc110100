-- The statements of an instruction: t0 to t3 set to 0, then each transfer in order.
use Rattle.std.specs.Prelude.{ℕ, zero, suc, ◌+◌, Option, Some, None, List, [], ◌∷◌}
use Rattle.rtl_core.specs.declared.expr.Expr.{Expr}
use Rattle.rtl_core.specs.declared.machine.Machine.{Machine}
use Rattle.rtl_core.specs.declared.machine.WinShape.{WinShape}
use Rattle.rtl_core.specs.declared.transfer.Act.{Act}
use Rattle.rtl_core.specs.declared.transfer.Act.TheVariants.{SetCell, SetSlice, Store, Jump, Annul, Trap, Service, WinSave, WinRestore}
use Rattle.rtl_core.specs.declared.transfer.Transfer.{Transfer}
use Rattle.rtl_core.specs.Terms.{term_of}
use Rattle.rtl_core.specs.Windows.{most_windows}
use Rattle.c_lang.specs.declared.tree.COp.TheVariants.{Eq as Same, Add as Plus, Sub as Minus, Mul as Times}
use Rattle.c_lang.specs.declared.tree.Var.TheVariants.{Cell as CellVar, Temp, Wn}
use Rattle.c_lang.specs.declared.tree.CExpr.{CExpr}
use Rattle.c_lang.specs.declared.tree.CExpr.TheVariants.{Num, Of, Bin as Op}
use Rattle.c_lang.specs.declared.tree.Stmt.{Stmt}
use Rattle.c_lang.specs.declared.tree.Stmt.TheVariants.{Set, Store as StoreAt, TakeW, PutW, If, Stop as StopWith}
use Rattle.c_lower.specs.Cells.{set_c}
use Rattle.c_lower.specs.Formula.{with_bits_c}
use Rattle.c_lower.specs.Code.{temp, code}

-- the place in `uq_w` of word i of the window that is saved next, or restored next once `uq_wn` is one less
abbrev pub word_place : ℕ → CExpr
word_place i = Op Plus (Op Times (Of Wn) (Num 16)) (Num i)

-- n cells from the first on into the words from i on
abbrev pub pushed : ℕ → ℕ → ℕ → List Stmt → List Stmt
pushed i first zero rest = rest
pushed i first (suc n) rest = PutW (word_place i) (Of (CellVar first)) ∷ pushed (i + 1) (first + 1) n rest

-- the words from i on into n cells from the first on
abbrev pub popped : ℕ → ℕ → ℕ → List Stmt → List Stmt
popped i first zero rest = rest
popped i first (suc n) rest = TakeW (CellVar first) (word_place i) ∷ popped (i + 1) (first + 1) n rest

-- n cells into n others
abbrev pub moved : ℕ → ℕ → ℕ → List Stmt → List Stmt
moved from to zero rest = rest
moved from to (suc n) rest = Set (CellVar to) (Of (CellVar from)) ∷ moved (from + 1) (to + 1) n rest

-- n cells set to 0
abbrev pub cleared : ℕ → ℕ → List Stmt → List Stmt
cleared first zero rest = rest
cleared first (suc n) rest = Set (CellVar first) (Num 0) ∷ cleared (first + 1) n rest

-- a save; it stops where no more windows can be saved
abbrev pub save_code : Option WinShape → List Stmt → List Stmt
save_code None rest = rest
save_code (Some w) rest =
    If (Op Same (Of Wn) (Num most_windows)) (StopWith 6 (Num 0) ∷ []) ∷ pushed 0 w.local_first w.count (pushed w.count w.in_first w.count
    (Set Wn (Op Plus (Of Wn) (Num 1)) ∷ moved w.out_first w.in_first w.count (cleared w.local_first w.count (cleared w.out_first w.count rest))))

-- a restore; it stops where no window is saved
abbrev pub restore_code : Option WinShape → List Stmt → List Stmt
restore_code None rest = rest
restore_code (Some w) rest =
    If (Op Same (Of Wn) (Num 0)) (StopWith 7 (Num 0) ∷ []) ∷ Set Wn (Op Minus (Of Wn) (Num 1))
    ∷ moved w.in_first w.out_first w.count (popped 0 w.local_first w.count (popped w.count w.in_first w.count rest))

-- what one act does
abbrev pub act_code : Machine → ℕ → Act → List Stmt → List Stmt
act_code m pc (SetCell c e) rest = code m pc (term_of e) 4 (set_c m.zero c (temp 4) rest)
act_code m pc (SetSlice c lo hi e) rest = code m pc (term_of e) 4 (set_c m.zero c (with_bits_c lo hi (Of (CellVar c)) (temp 4)) rest)
act_code m pc (Store n a e) rest = code m pc (term_of a) 4 (code m pc (term_of e) 5 (StoreAt n (temp 4) (temp 5) ∷ rest))
act_code m pc (Jump e) rest = code m pc (term_of e) 4 (Set (Temp 0) (temp 4) ∷ Set (Temp 1) (Num 1) ∷ rest)
act_code m pc Annul rest = Set (Temp 2) (Num 1) ∷ rest
act_code m pc (Trap e) rest = code m pc (term_of e) 4 (StopWith 5 (temp 4) ∷ rest)
act_code m pc Service rest = Set (Temp 3) (Num 1) ∷ rest
act_code m pc WinSave rest = save_code m.windows rest
act_code m pc WinRestore rest = restore_code m.windows rest

-- what one transfer does: a guard is computed, and then the act stands in an `if`
abbrev pub transfer_code : Machine → ℕ → Option Expr → Act → List Stmt → List Stmt
transfer_code m pc None act rest = act_code m pc act rest
transfer_code m pc (Some guard) act rest = code m pc (term_of guard) 4 (If (temp 4) (act_code m pc act []) ∷ rest)

-- one transfer after another
abbrev pub transfers_code : Machine → ℕ → List Transfer → List Stmt → List Stmt
transfers_code m pc [] rest = rest
transfers_code m pc (t ∷ ts) rest = transfer_code m pc t.guard t.act (transfers_code m pc ts rest)

-- the statements of the instruction at pc, before the rest of its block
abbrev pub lowered : Machine → ℕ → List Transfer → List Stmt → List Stmt
lowered m pc ts rest = Set (Temp 0) (Num 0) ∷ Set (Temp 1) (Num 0) ∷ Set (Temp 2) (Num 0) ∷ Set (Temp 3) (Num 0) ∷ transfers_code m pc ts rest
