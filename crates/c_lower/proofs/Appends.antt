-- What stands behind statements that are put before a rest.
use Rattle.std.proofs.Common.{◌≡◌, ℕ, zero, suc, ◌+◌, ◌==◌, Bool, true, false, if◌then◌else◌, Option, Some, None, List, [], ◌∷◌, ◌++◌, refl, sym, ap, ◌∙◌}
use Rattle.rtl_core.specs.declared.expr.Expr.{Expr}
use Rattle.rtl_core.specs.declared.machine.Machine.{Machine}
use Rattle.rtl_core.specs.declared.machine.WinShape.{WinShape}
use Rattle.rtl_core.specs.declared.transfer.Act.{Act}
use Rattle.rtl_core.specs.declared.transfer.Act.TheVariants.{SetCell, SetSlice, Store, Jump, Annul, Trap, Service, WinSave, WinRestore}
use Rattle.rtl_core.specs.declared.transfer.Transfer.{Transfer}
use Rattle.rtl_core.specs.Arithmetic.{is_division}
use Rattle.rtl_core.specs.Terms.{Term, Const, Cell, Load, Unary, Binary, Slice, Zext, Sext, Choice, term_of, width_of}
use Rattle.rtl_core.specs.Windows.{most_windows}
use Rattle.c_lang.specs.declared.tree.COp.TheVariants.{Eq as Same, Add as Plus, Sub as Minus}
use Rattle.c_lang.specs.declared.tree.CExpr.{CExpr}
use Rattle.c_lang.specs.declared.tree.CExpr.TheVariants.{Num, Of, Bin as Op, Choose}
use Rattle.c_lang.specs.declared.tree.Stmt.{Stmt}
use Rattle.c_lang.specs.declared.tree.Stmt.TheVariants.{Set, Load as LoadInto, Store as StoreAt, TakeW, PutW, If, Stop as StopWith}
use Rattle.c_lang.specs.declared.tree.Var.TheVariants.{Cell as CellVar, Temp, Wn}
use Rattle.c_lower.specs.Cells.{set_c}
use Rattle.c_lower.specs.Code.{temp, guarded, code}
use Rattle.c_lower.specs.Formula.{binary_c, unary_c, bits_c, with_bits_c, sign_extended_c}
use Rattle.c_lower.specs.Lowered.{word_place, pushed, popped, moved, cleared, save_code, restore_code, act_code, transfer_code, transfers_code, lowered}

guarded_on : (t : Bool) (pc k : ℕ) (r s : List Stmt) → guarded t pc k r ++ s ≡ guarded t pc k (r ++ s)
guarded_on true pc k r s = refl
guarded_on false pc k r s = refl

pub code_on : (m : Machine) (pc : ℕ) (t : Term) (k : ℕ) (r s : List Stmt)
    → code m pc t k r ++ s ≡ code m pc t k (r ++ s)
code_on m pc (Const w n) k r s = refl
code_on m pc (Cell c) k r s = refl
code_on m pc (Load b a) k r s = code_on m pc a k (LoadInto (Temp k) b (temp k) ∷ r) s
code_on m pc (Unary op a) k r s = code_on m pc a k (Set (Temp k) (unary_c op (width_of m.widths a) (temp k)) ∷ r) s
code_on m pc (Binary op a b) k r s =
    let x = Set (Temp k) (binary_c op (width_of m.widths a) (temp k) (temp (k + 1))) in
    code_on m pc a k (code m pc b (k + 1) (guarded (is_division op) pc (k + 1) (x ∷ r))) s
    ∙ ap (code m pc a k) (code_on m pc b (k + 1) (guarded (is_division op) pc (k + 1) (x ∷ r)) s
    ∙ ap (code m pc b (k + 1)) (guarded_on (is_division op) pc (k + 1) (x ∷ r) s))
code_on m pc (Slice a lo hi) k r s = code_on m pc a k (Set (Temp k) (bits_c lo hi (temp k)) ∷ r) s
code_on m pc (Zext w a) k r s = code_on m pc a k r s
code_on m pc (Sext w a) k r s = code_on m pc a k (Set (Temp k) (sign_extended_c (width_of m.widths a) w (temp k)) ∷ r) s
code_on m pc (Choice c a b) k r s =
    let x = Set (Temp k) (Choose (temp k) (temp (k + 1)) (temp (k + 2))) in
    code_on m pc c k (code m pc a (k + 1) (code m pc b (k + 2) (x ∷ r))) s
    ∙ ap (code m pc c k) (code_on m pc a (k + 1) (code m pc b (k + 2) (x ∷ r)) s
    ∙ ap (code m pc a (k + 1)) (code_on m pc b (k + 2) (x ∷ r) s))

set_on : (zero_cell : Option ℕ) (c : ℕ) (e : CExpr) (r s : List Stmt)
    → set_c zero_cell c e r ++ s ≡ set_c zero_cell c e (r ++ s)
set_on None c e r s = refl
set_on (Some z) c e r s = by (c == z)
  where
    by : (t : Bool) → (if t then r else Set (CellVar c) e ∷ r) ++ s ≡
        (if t then r ++ s else Set (CellVar c) e ∷ (r ++ s))
    by true = refl
    by false = refl

pushed_on : (n i first : ℕ) (r s : List Stmt) → pushed i first n r ++ s ≡ pushed i first n (r ++ s)
pushed_on zero i first r s = refl
pushed_on (suc n) i first r s =
    ap (λ l. PutW (word_place i) (Of (CellVar first)) ∷ l) (pushed_on n (i + 1) (first + 1) r s)

popped_on : (n i first : ℕ) (r s : List Stmt) → popped i first n r ++ s ≡ popped i first n (r ++ s)
popped_on zero i first r s = refl
popped_on (suc n) i first r s = ap (λ l. TakeW (CellVar first) (word_place i) ∷ l) (popped_on n (i + 1) (first + 1) r s)

moved_on : (n from to : ℕ) (r s : List Stmt) → moved from to n r ++ s ≡ moved from to n (r ++ s)
moved_on zero from to r s = refl
moved_on (suc n) from to r s = ap (λ l. Set (CellVar to) (Of (CellVar from)) ∷ l) (moved_on n (from + 1) (to + 1) r s)

cleared_on : (n first : ℕ) (r s : List Stmt) → cleared first n r ++ s ≡ cleared first n (r ++ s)
cleared_on zero first r s = refl
cleared_on (suc n) first r s = ap (λ l. Set (CellVar first) (Num 0) ∷ l) (cleared_on n (first + 1) r s)

save_on : (o : Option WinShape) (r s : List Stmt) → save_code o r ++ s ≡ save_code o (r ++ s)
save_on None r s = refl
save_on (Some w) r s =
    let k = w.count in
    let more = Set Wn (Op Plus (Of Wn) (Num 1)) in
    let r3 = cleared w.out_first k r in
    let r2 = cleared w.local_first k r3 in
    let r1 = moved w.out_first w.in_first k r2 in
    ap (λ l. If (Op Same (Of Wn) (Num most_windows)) (StopWith 6 (Num 0) ∷ []) ∷ l)
    (pushed_on k 0 w.local_first (pushed k w.in_first k (more ∷ r1)) s
    ∙ ap (pushed 0 w.local_first k) (pushed_on k k w.in_first (more ∷ r1) s
    ∙ ap (λ l. pushed k w.in_first k (more ∷ l))
    (moved_on k w.out_first w.in_first r2 s
    ∙ ap (moved w.out_first w.in_first k)
    (cleared_on k w.local_first r3 s ∙ ap (cleared w.local_first k) (cleared_on k w.out_first r s)))))

restore_on : (o : Option WinShape) (r s : List Stmt) → restore_code o r ++ s ≡ restore_code o (r ++ s)
restore_on None r s = refl
restore_on (Some w) r s =
    let k = w.count in
    let r2 = popped k w.in_first k r in
    let r1 = popped 0 w.local_first k r2 in
    ap (λ l. If (Op Same (Of Wn) (Num 0)) (StopWith 7 (Num 0) ∷ []) ∷ Set Wn (Op Minus (Of Wn) (Num 1)) ∷ l)
    (moved_on k w.in_first w.out_first r1 s
    ∙ ap (moved w.in_first w.out_first k)
    (popped_on k 0 w.local_first r2 s ∙ ap (popped 0 w.local_first k) (popped_on k k w.in_first r s)))

pub act_on : (m : Machine) (pc : ℕ) (act : Act) (r s : List Stmt)
    → act_code m pc act r ++ s ≡ act_code m pc act (r ++ s)
act_on m pc (SetCell c e) r s =
    code_on m pc (term_of e) 4 (set_c m.zero c (temp 4) r) s
    ∙ ap (code m pc (term_of e) 4) (set_on m.zero c (temp 4) r s)
act_on m pc (SetSlice c lo hi e) r s =
    let x = with_bits_c lo hi (Of (CellVar c)) (temp 4) in
    code_on m pc (term_of e) 4 (set_c m.zero c x r) s ∙ ap (code m pc (term_of e) 4) (set_on m.zero c x r s)
act_on m pc (Store n a e) r s =
    let x = StoreAt n (temp 4) (temp 5) in
    code_on m pc (term_of a) 4 (code m pc (term_of e) 5 (x ∷ r)) s
    ∙ ap (code m pc (term_of a) 4) (code_on m pc (term_of e) 5 (x ∷ r) s)
act_on m pc (Jump e) r s = code_on m pc (term_of e) 4 (Set (Temp 0) (temp 4) ∷ Set (Temp 1) (Num 1) ∷ r) s
act_on m pc Annul r s = refl
act_on m pc (Trap e) r s = code_on m pc (term_of e) 4 (StopWith 5 (temp 4) ∷ r) s
act_on m pc Service r s = refl
act_on m pc WinSave r s = save_on m.windows r s
act_on m pc WinRestore r s = restore_on m.windows r s

transfer_on : (m : Machine) (pc : ℕ) (guard : Option Expr) (act : Act) (r s : List Stmt)
    → transfer_code m pc guard act r ++ s ≡ transfer_code m pc guard act (r ++ s)
transfer_on m pc None act r s = act_on m pc act r s
transfer_on m pc (Some guard) act r s = code_on m pc (term_of guard) 4 (If (temp 4) (act_code m pc act []) ∷ r) s

transfers_on : (m : Machine) (pc : ℕ) (ts : List Transfer) (r s : List Stmt)
    → transfers_code m pc ts r ++ s ≡ transfers_code m pc ts (r ++ s)
transfers_on m pc [] r s = refl
transfers_on m pc (t ∷ ts) r s =
    transfer_on m pc t.guard t.act (transfers_code m pc ts r) s
    ∙ ap (transfer_code m pc t.guard t.act) (transfers_on m pc ts r s)

-- the statements of an instruction before a rest are its statements, and then the rest
pub lowered_onto : (m : Machine) (pc : ℕ) (ts : List Transfer) (rest : List Stmt)
    → lowered m pc ts rest ≡ lowered m pc ts [] ++ rest
lowered_onto m pc ts rest =
    ap (λ l. Set (Temp 0) (Num 0) ∷ Set (Temp 1) (Num 0) ∷ Set (Temp 2) (Num 0) ∷ Set (Temp 3) (Num 0) ∷ l)
    (sym (transfers_on m pc ts [] rest))
