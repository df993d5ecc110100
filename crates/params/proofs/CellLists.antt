-- Lists of cells that grow at their end.
use Rattle.std.proofs.Common.{◌≡◌, ℕ, ◌+◌, ◌<◌, Bool, true, false, List, [], ◌∷◌, ◌++◌, length, take, get_or, refl, sym, ◌∙◌, ap, arith, append_assoc, append-nil, zero, suc}
use Rattle.std.specs.Prelude.{filter, if◌then◌else◌}
use Rattle.std.specs.List.{range_with_len}
use Rattle.std.proofs.lemmas.List.{take_more}
use Rattle.std.proofs.lemmas.List.Elements.{filter-append}
use Rattle.rtl_core.specs.declared.conv.Conv.{Conv}
use Rattle.rtl_core.specs.declared.expr.Expr.{Expr}
use Rattle.rtl_core.specs.declared.expr.Expr.TheVariants as E
use Rattle.rtl_core.specs.declared.expr.Un.{Un}
use Rattle.rtl_core.specs.declared.expr.Bin.{Bin as BinOp}
use Rattle.rtl_core.specs.declared.machine.Machine.{Machine}
use Rattle.rtl_core.specs.declared.transfer.Transfer.{Transfer}
use Rattle.rtl_core.proofs.TermLaws.{term-Const, term-Cell, term-Load, term-Un, term-Bin, term-Slice, term-Zext, term-Sext, term-If}
use Rattle.points.specs.Summaries.{term_cells, expr_cells, cells_in_row, guard_cells, act_names, act_assigns, transfers_name, transfers_assign}

-- ---- the cells of expressions, put behind others

pub cells-Const : (xs : List ℕ) (w n : ℕ) → xs ++ expr_cells (E.Const w n) ≡ xs
cells-Const xs w n = ap (λ t. xs ++ term_cells t) (term-Const w n) ∙ append-nil xs

pub cells-Cell : (xs : List ℕ) (c : ℕ) → xs ++ expr_cells (E.Cell c) ≡ xs ++ c ∷ []
cells-Cell xs c = ap (λ t. xs ++ term_cells t) (term-Cell c)

pub cells-Load : (xs : List ℕ) (n : ℕ) (a : Expr) → xs ++ expr_cells (E.Load n a) ≡ xs ++ expr_cells a
cells-Load xs n a = ap (λ t. xs ++ term_cells t) (term-Load n a)

pub cells-Un : (xs : List ℕ) (op : Un) (a : Expr) → xs ++ expr_cells (E.Un op a) ≡ xs ++ expr_cells a
cells-Un xs op a = ap (λ t. xs ++ term_cells t) (term-Un op a)

pub cells-Slice : (xs : List ℕ) (a : Expr) (lo hi : ℕ) → xs ++ expr_cells (E.Slice a lo hi) ≡ xs ++ expr_cells a
cells-Slice xs a lo hi = ap (λ t. xs ++ term_cells t) (term-Slice a lo hi)

pub cells-Zext : (xs : List ℕ) (w : ℕ) (a : Expr) → xs ++ expr_cells (E.Zext w a) ≡ xs ++ expr_cells a
cells-Zext xs w a = ap (λ t. xs ++ term_cells t) (term-Zext w a)

pub cells-Sext : (xs : List ℕ) (w : ℕ) (a : Expr) → xs ++ expr_cells (E.Sext w a) ≡ xs ++ expr_cells a
cells-Sext xs w a = ap (λ t. xs ++ term_cells t) (term-Sext w a)

pub cells-Bin : (xs : List ℕ) (op : BinOp) (a b : Expr) → xs ++ expr_cells (E.Bin op a b) ≡ (xs ++ expr_cells a) ++ expr_cells b
cells-Bin xs op a b = ap (λ t. xs ++ term_cells t) (term-Bin op a b) ∙ sym (append_assoc xs (expr_cells a) (expr_cells b))

pub cells-If : (xs : List ℕ) (c a b : Expr) → xs ++ expr_cells (E.If c a b) ≡ ((xs ++ expr_cells c) ++ expr_cells a) ++ expr_cells b
cells-If xs c a b =
    ap (λ t. xs ++ term_cells t) (term-If c a b) ∙ sym (append_assoc xs (expr_cells c) (expr_cells a ++ expr_cells b)) ∙ sym (append_assoc (xs ++ expr_cells c) (expr_cells a) (expr_cells b))

pub ruleset expr_laws = (cells-Const, cells-Cell, cells-Load, cells-Un, cells-Slice, cells-Zext, cells-Sext, cells-Bin, cells-If)

-- ---- one more

pub row-more : (first n : ℕ) → cells_in_row first (suc n) ≡ cells_in_row first n ++ (first + n) ∷ []
row-more first zero = let e : first ≡ first + 0 = omega arith in ap (λ x. x ∷ []) e
row-more first (suc n) = let e : (first + 1) + n ≡ first + suc n = omega arith in ap (λ l. first ∷ l) (row-more (first + 1) n ∙ ap (λ x. cells_in_row (first + 1) n ++ x ∷ []) e)

pub row-on : (xs : List ℕ) (first n : ℕ) → (xs ++ cells_in_row first n) ++ (first + n) ∷ [] ≡ xs ++ cells_in_row first (n + 1)
row-on xs first n = let e : n + 1 ≡ suc n = omega arith in append_assoc xs (cells_in_row first n) ((first + n) ∷ []) ∙ ap (λ l. xs ++ l) (sym (row-more first n)) ∙ ap (λ k. xs ++ cells_in_row first k) (sym e)

pub range-more : (a n : ℕ) → range_with_len a (suc n) ≡ range_with_len a n ++ (a + n) ∷ []
range-more a zero = let e : a ≡ a + 0 = omega arith in ap (λ x. x ∷ []) e
range-more a (suc n) = let e : (a + 1) + n ≡ a + suc n = omega arith in ap (λ l. a ∷ l) (range-more (a + 1) n ∙ ap (λ x. range_with_len (a + 1) n ++ x ∷ []) e)

pub range-on : (n : ℕ) → range_with_len 0 n ++ n ∷ [] ≡ range_with_len 0 (n + 1)
range-on n = let e : n + 1 ≡ suc n = omega arith in let z : 0 + n ≡ n = omega arith in sym (ap (range_with_len 0) e ∙ range-more 0 n ∙ ap (λ x. range_with_len 0 n ++ x ∷ []) z)

pub chosen-on : (p : ℕ → Bool) (n : ℕ) → filter p (range_with_len 0 n) ++ (if p n then n ∷ [] else []) ≡ filter p (range_with_len 0 (n + 1))
chosen-on p n = sym (ap (filter p) (sym (range-on n)) ∙ filter-append p (range_with_len 0 n) (n ∷ []) ∙ ap (λ l. filter p (range_with_len 0 n) ++ l) (by (p n) refl))
  where
    by : (b : Bool) → p n ≡ b → filter p (n ∷ []) ≡ (if p n then n ∷ [] else [])
    by true e = rw e refl
    by false e = rw e refl

pub names-more : (m : Machine) (conv : Conv) (ts : List Transfer) (t : Transfer)
    → transfers_name m conv (ts ++ t ∷ []) ≡ (transfers_name m conv ts ++ guard_cells t.guard) ++ act_names m conv t.act
names-more m conv [] t = ap (λ l. guard_cells t.guard ++ l) (append-nil (act_names m conv t.act))
names-more m conv (u ∷ ts) t =
    ap (λ l. guard_cells u.guard ++ (act_names m conv u.act ++ l)) (names-more m conv ts t)
    ∙ ap (λ l. guard_cells u.guard ++ l) (sym (append_assoc (act_names m conv u.act) (transfers_name m conv ts ++ guard_cells t.guard) (act_names m conv t.act)) ∙ ap (λ l. l ++ act_names m conv t.act) (sym (append_assoc (act_names m conv u.act) (transfers_name m conv ts) (guard_cells t.guard))))
    ∙ sym (append_assoc (guard_cells u.guard) ((act_names m conv u.act ++ transfers_name m conv ts) ++ guard_cells t.guard) (act_names m conv t.act))
    ∙ ap (λ l. l ++ act_names m conv t.act) (sym (append_assoc (guard_cells u.guard) (act_names m conv u.act ++ transfers_name m conv ts) (guard_cells t.guard)))

pub assigns-more : (m : Machine) (conv : Conv) (ts : List Transfer) (t : Transfer) → transfers_assign m conv (ts ++ t ∷ []) ≡ transfers_assign m conv ts ++ act_assigns m conv t.act
assigns-more m conv [] t = append-nil (act_assigns m conv t.act)
assigns-more m conv (u ∷ ts) t = ap (λ l. act_assigns m conv u.act ++ l) (assigns-more m conv ts t) ∙ sym (append_assoc (act_assigns m conv u.act) (transfers_assign m conv ts) (act_assigns m conv t.act))

-- the transfer of a loop is one more
pub assigns-next : (m : Machine) (conv : Conv) (xs : List ℕ) (ts : List Transfer) (at : ℕ) (t : Transfer) → at < length ts → t ≡ get_or ts at t
    → (xs ++ transfers_assign m conv (take at ts)) ++ act_assigns m conv t.act ≡ xs ++ transfers_assign m conv (take (at + 1) ts)
assigns-next m conv xs ts at t lt is =
    append_assoc xs (transfers_assign m conv (take at ts)) (act_assigns m conv t.act)
    ∙ ap (λ l. xs ++ l) (sym (assigns-more m conv (take at ts) t))
    ∙ ap (λ l. xs ++ transfers_assign m conv l) (sym (take_more ts at t lt ∙ ap (λ u. take at ts ++ u ∷ []) (sym is)))

pub names-next : (m : Machine) (conv : Conv) (xs : List ℕ) (ts : List Transfer) (at : ℕ) (t : Transfer) → at < length ts → t ≡ get_or ts at t
    → ((xs ++ transfers_name m conv (take at ts)) ++ guard_cells t.guard) ++ act_names m conv t.act ≡ xs ++ transfers_name m conv (take (at + 1) ts)
names-next m conv xs ts at t lt is =
    ap (λ l. l ++ act_names m conv t.act) (append_assoc xs (transfers_name m conv (take at ts)) (guard_cells t.guard))
    ∙ append_assoc xs (transfers_name m conv (take at ts) ++ guard_cells t.guard) (act_names m conv t.act)
    ∙ ap (λ l. xs ++ l) (sym (names-more m conv (take at ts) t))
    ∙ ap (λ l. xs ++ transfers_name m conv l) (sym (take_more ts at t lt ∙ ap (λ u. take at ts ++ u ∷ []) (sym is)))
