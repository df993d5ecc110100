-- Expressions and statements that have a form, with a bound of their `if`s.
use Rattle.std.proofs.Common.{◌≡◌, ℕ, zero, suc, ◌<◌, ◌+◌, ◌≤◌, ◌^◌, max, Bool, true, List, [], ◌∷◌, map, All, refl, arith}
use Rattle.std.proofs.lemmas.List.Elements.{All-nil, All-cons, All-head, All-tail, All-weaker}
use Rattle.rtl_core.specs.Access.{is_size}
use Rattle.rtl_core.proofs.AccessLaws.{size_bounds}
use Rattle.c_lang.specs.declared.tree.COp.{COp}
use Rattle.c_lang.specs.declared.tree.CExpr.{CExpr}
use Rattle.c_lang.specs.declared.tree.CExpr.TheVariants.{Num, Of, Bin, Choose}
use Rattle.c_lang.specs.declared.tree.Stmt.{Stmt}
use Rattle.c_lang.specs.declared.tree.Stmt.TheVariants.{Set, Load, Store, TakeW, PutW, Serve, Call, If, Stop}
use Rattle.c_lang.specs.declared.tree.Var.{Var}
use Rattle.c_lang.specs.declared.tree.Var.TheVariants.{Cell, Temp, Wn}
use Rattle.c_lang.specs.Spellable.{total, misfit, largest, above, nesting, deepest, ifs, var_misfits, expr_misfits, stmt_misfits, StmtHasForm}
use Rattle.c_lang.proofs.SpellingLaws.{fits}
use Rattle.c_lower.specs.Tidy.{Reads, number, a_cell, a_temp, count, two, three, Tidy, ends, sets_temp, sets_cell, sets_count, loads, stores, takes, puts, tests, stops}
use Rattle.c_forms.proofs.Equations.{nesting-Num, nesting-Of, nesting-Bin, nesting-Choose, deepest-Set, deepest-Load, deepest-Store, deepest-TakeW, deepest-PutW, deepest-Serve, deepest-Call, deepest-If, deepest-Stop, ifs-Set, ifs-Load, ifs-Store, ifs-TakeW, ifs-PutW, ifs-Serve, ifs-Call, ifs-If, ifs-Stop, fit-Num, fit-Of, fit-Bin, fit-Choose, fit-Set, fit-Load, fit-Store, fit-TakeW, fit-PutW, fit-Serve, fit-Call, fit-If, fit-Stop}

-- ---- expressions

-- an expression stands inside few others, and its numbers fit
pub record Small (e : CExpr) : Type 0 where
  pub nest : nesting e ≤ 8
  pub numbers : expr_misfits e ≡ 0

-- the same with a bound of its own
pub record SmallBy (n : ℕ) (e : CExpr) : Type 0 where
  pub nest : nesting e ≤ n
  pub numbers : expr_misfits e ≡ 0

pub small : (n : ℕ) (e : CExpr) → n ≤ 8 → SmallBy n e → Small e
small n e le h = record { nest = omega (arith, le, h.nest); numbers = h.numbers }

pub num-by : (x : ℕ) → x < 2 ^ 64 → SmallBy 0 (Num x)
num-by x lt = record { nest = rw (nesting-Num x) (omega arith); numbers = rw (fit-Num x) (fits 64 x lt) }

pub var-by : (v : Var) → var_misfits v ≡ 0 → SmallBy 0 (Of v)
var-by v h = record { nest = rw (nesting-Of v) (omega arith); numbers = rw (fit-Of v) h }

pub bin-by : (n : ℕ) (op : COp) (a b : CExpr) → SmallBy n a → SmallBy n b → SmallBy (suc n) (Bin op a b)
bin-by n op a b h k = record { nest = rw (nesting-Bin op a b) (omega (arith, h.nest, k.nest)); numbers = rw (fit-Bin op a b) (omega (arith, h.numbers, k.numbers)) }

pub choose-by : (n : ℕ) (c a b : CExpr) → SmallBy n c → SmallBy n a → SmallBy n b → SmallBy (suc n) (Choose c a b)
choose-by n c a b g h k = record { nest = rw (nesting-Choose c a b) (omega (arith, g.nest, h.nest, k.nest)); numbers = rw (fit-Choose c a b) (omega (arith, g.numbers, h.numbers, k.numbers)) }

pub more-by : (n m : ℕ) (e : CExpr) → n ≤ m → SmallBy n e → SmallBy m e
more-by n m e le h = record { nest = omega (arith, le, h.nest); numbers = h.numbers }

pub small-num : (x : ℕ) → x < 2 ^ 64 → Small (Num x)
small-num x lt = small 0 (Num x) (omega arith) (num-by x lt)

pub small-var : (v : Var) → var_misfits v ≡ 0 → Small (Of v)
small-var v h = small 0 (Of v) (omega arith) (var-by v h)

-- ---- statements

-- a statement inside few `if`s, with small expressions and numbers that fit
pub record Fine (k : ℕ) (s : Stmt) : Type 0 where
  pub exprs : deepest s ≤ 8
  pub nested : ifs s ≤ k
  pub numbers : stmt_misfits s ≡ 0

pub fine-form : (k : ℕ) (ss : List Stmt) → k ≤ 200 → All (Fine k) ss → All StmtHasForm ss
fine-form k ss le h = All-weaker (Fine k) StmtHasForm (λ s f. record { exprs = omega (arith, f.exprs); nested = omega (arith, f.nested, le); numbers = f.numbers }) ss h

pub fine-more : (k n : ℕ) (ss : List Stmt) → k ≤ n → All (Fine k) ss → All (Fine n) ss
fine-more k n ss le h = All-weaker (Fine k) (Fine n) (λ s f. record { exprs = f.exprs; nested = omega (arith, f.nested, le); numbers = f.numbers }) ss h

pub fine-set : (k : ℕ) (v : Var) (e : CExpr) → var_misfits v ≡ 0 → Small e → Fine k (Set v e)
fine-set k v e h s = record { exprs = rw (deepest-Set v e) s.nest; nested = rw (ifs-Set v e) (omega arith); numbers = rw (fit-Set v e) (omega (arith, h, s.numbers)) }

pub fine-stop : (k n : ℕ) (e : CExpr) → n < 2 ^ 64 → Small e → Fine k (Stop n e)
fine-stop k n e lt s = record { exprs = rw (deepest-Stop n e) s.nest; nested = rw (ifs-Stop n e) (omega arith); numbers = rw (fit-Stop n e) (omega (arith, fits 64 n lt, s.numbers)) }

pub fine-serve : (k : ℕ) (n x y z : CExpr) → Small n → Small x → Small y → Small z → Fine k (Serve n x y z)
fine-serve k n x y z a b c d = record {
  exprs = rw (deepest-Serve n x y z) (omega (arith, a.nest, b.nest, c.nest, d.nest));
  nested = rw (ifs-Serve n x y z) (omega arith);
  numbers = rw (fit-Serve n x y z) (omega (arith, a.numbers, b.numbers, c.numbers, d.numbers));
}

exprs-nest : (es : List CExpr) → All Small es → largest (map nesting es) ≤ 8
exprs-nest [] h = omega arith
exprs-nest (e ∷ es) h = let one = All-head Small e es h in omega (arith, one.nest, exprs-nest es (All-tail Small e es h))

exprs-fit : (es : List CExpr) → All Small es → total (map expr_misfits es) ≡ 0
exprs-fit [] h = refl
exprs-fit (e ∷ es) h = let one = All-head Small e es h in omega (arith, one.numbers, exprs-fit es (All-tail Small e es h))

pub fine-call : (k f : ℕ) (es : List CExpr) → f < 2 ^ 32 → All Small es → Fine k (Call f es)
fine-call k f es lt h = record {
  exprs = rw (deepest-Call f es) (exprs-nest es h);
  nested = rw (ifs-Call f es) (omega arith);
  numbers = rw (fit-Call f es) (omega (arith, fits 32 f lt, exprs-fit es h));
}

body-deepest : (k : ℕ) (ss : List Stmt) → All (Fine k) ss → largest (map deepest ss) ≤ 8
body-deepest k [] h = omega arith
body-deepest k (s ∷ ss) h = let one = All-head (Fine k) s ss h in omega (arith, one.exprs, body-deepest k ss (All-tail (Fine k) s ss h))

body-ifs : (k : ℕ) (ss : List Stmt) → All (Fine k) ss → above (map ifs ss) ≤ suc k
body-ifs k [] h = omega arith
body-ifs k (s ∷ ss) h = let one = All-head (Fine k) s ss h in omega (arith, one.nested, body-ifs k ss (All-tail (Fine k) s ss h))

body-fit : (k : ℕ) (ss : List Stmt) → All (Fine k) ss → total (map stmt_misfits ss) ≡ 0
body-fit k [] h = refl
body-fit k (s ∷ ss) h = let one = All-head (Fine k) s ss h in omega (arith, one.numbers, body-fit k ss (All-tail (Fine k) s ss h))

pub fine-if : (k : ℕ) (e : CExpr) (body : List Stmt) → Small e → All (Fine k) body → Fine (suc k) (If e body)
fine-if k e body s h = record {
  exprs = rw (deepest-If e body) (omega (arith, s.nest, body-deepest k body h));
  nested = rw (ifs-If e body) (body-ifs k body h);
  numbers = rw (fit-If e body) (omega (arith, s.numbers, body-fit k body h));
}

-- ---- the statements of an instruction

size-fits : (n : ℕ) → is_size n ≡ true → misfit 64 n ≡ 0
size-fits n h = let bounds = size_bounds n h in fits 64 n (omega (arith, bounds.1))

module _ (named : ℕ → Bool) (temps : ℕ) (cells : (c : ℕ) → named c ≡ true → c < 2 ^ 8) (few : temps ≤ 2 ^ 16) where
  cell-fits : (c : ℕ) → named c ≡ true → misfit 8 c ≡ 0
  cell-fits c h = fits 8 c (cells c h)

  temp-fits : (k : ℕ) → k < temps → misfit 16 k ≡ 0
  temp-fits k lt = fits 16 k (omega (arith, lt, few))

  reads-by : {assigned : ℕ → Bool} {n : ℕ} {e : CExpr} → Reads named temps assigned n e → SmallBy n e
  reads-by {n = n} (number x lt) = more-by 0 n (Num x) (omega arith) (num-by x lt)
  reads-by {n = n} (a_cell c h) = more-by 0 n (Of (Cell c)) (omega arith) (var-by (Cell c) (cell-fits c h))
  reads-by {n = n} (a_temp k h i) = more-by 0 n (Of (Temp k)) (omega arith) (var-by (Temp k) (temp-fits k h))
  reads-by {n = n} count = more-by 0 n (Of Wn) (omega arith) (var-by Wn refl)
  reads-by (two op a b p q) = bin-by _ op a b (reads-by p) (reads-by q)
  reads-by (three c a b p q r) = choose-by _ c a b (reads-by p) (reads-by q) (reads-by r)

  reads-small : {assigned : ℕ → Bool} {e : CExpr} → Reads named temps assigned 7 e → Small e
  reads-small {e = e} r = small 7 e (omega arith) (reads-by r)

  pub tidy-fine : {n : ℕ} {D E : ℕ → Bool} {ss : List Stmt} → Tidy named temps n D ss E → All (Fine n) ss
  tidy-fine {n = n} (ends h) = All-nil (Fine n)
  tidy-fine {n = n} (sets_temp k e lt r t) = All-cons (Fine n) (Set (Temp k) e) _ (fine-set n (Temp k) e (temp-fits k lt) (reads-small r)) (tidy-fine t)
  tidy-fine {n = n} (sets_cell c e h r t) = All-cons (Fine n) (Set (Cell c) e) _ (fine-set n (Cell c) e (cell-fits c h) (reads-small r)) (tidy-fine t)
  tidy-fine {n = n} (sets_count e r t) = All-cons (Fine n) (Set Wn e) _ (fine-set n Wn e refl (reads-small r)) (tidy-fine t)
  tidy-fine {n = n} (loads k size e lt h r t) =
      let s = reads-small r in
      All-cons (Fine n) (Load (Temp k) size e) _ (record {
        exprs = rw (deepest-Load (Temp k) size e) s.nest;
        nested = rw (ifs-Load (Temp k) size e) (omega arith);
        numbers = rw (fit-Load (Temp k) size e) (omega (arith, temp-fits k lt, size-fits size h, s.numbers));
      }) (tidy-fine t)
  tidy-fine {n = n} (stores size a e h p q t) =
      let s = reads-small p in
      let u = reads-small q in
      All-cons (Fine n) (Store size a e) _ (record {
        exprs = rw (deepest-Store size a e) (omega (arith, s.nest, u.nest));
        nested = rw (ifs-Store size a e) (omega arith);
        numbers = rw (fit-Store size a e) (omega (arith, size-fits size h, s.numbers, u.numbers));
      }) (tidy-fine t)
  tidy-fine {n = n} (takes c e h r t) =
      let s = reads-small r in
      All-cons (Fine n) (TakeW (Cell c) e) _ (record {
        exprs = rw (deepest-TakeW (Cell c) e) s.nest;
        nested = rw (ifs-TakeW (Cell c) e) (omega arith);
        numbers = rw (fit-TakeW (Cell c) e) (omega (arith, cell-fits c h, s.numbers));
      }) (tidy-fine t)
  tidy-fine {n = n} (puts i e p q t) =
      let s = reads-small p in
      let u = reads-small q in
      All-cons (Fine n) (PutW i e) _ (record {
        exprs = rw (deepest-PutW i e) (omega (arith, s.nest, u.nest));
        nested = rw (ifs-PutW i e) (omega arith);
        numbers = rw (fit-PutW i e) (omega (arith, s.numbers, u.numbers));
      }) (tidy-fine t)
  tidy-fine {n = suc n} (tests e {body = body} r b t) = All-cons (Fine (suc n)) (If e body) _ (fine-if n e body (reads-small r) (tidy-fine b)) (tidy-fine t)
  tidy-fine {n = n} (stops k e lt r t) = All-cons (Fine n) (Stop k e) _ (fine-stop n k e (omega (arith, lt)) (reads-small r)) (tidy-fine t)
