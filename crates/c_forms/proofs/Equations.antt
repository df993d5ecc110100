-- How deep the forms of a C text nest, and which of their numbers have too many bits: one equation for each form.
use Rattle.std.proofs.Common.{◌≡◌, ℕ, ◌+◌, max, List, [], ◌∷◌, map, rules}
use Rattle.c_lang.specs.declared.tree.COp.{COp}
use Rattle.c_lang.specs.declared.tree.CExpr.{CExpr, the_lemmas}
use Rattle.c_lang.specs.declared.tree.CExpr.TheVariants.{Num, Of, Bin, Choose}
use Rattle.c_lang.specs.declared.tree.Stmt.{Stmt, the_lemmas as stmt_lemmas}
use Rattle.c_lang.specs.declared.tree.Stmt.TheVariants.{Set, Load, Store, TakeW, PutW, Serve, Call, If, Stop}
use Rattle.c_lang.specs.declared.tree.Var.{Var}
use Rattle.c_lang.specs.Spellable.{total, misfit, largest, above, nesting, deepest, ifs, var_misfits, expr_misfits, stmt_misfits}

-- ---- nesting of expressions

pub nesting-Num : (n : ℕ) → nesting (Num n) ≡ 0
unfolding nesting
nesting-Num n = search (rules, the_lemmas)

pub nesting-Of : (v : Var) → nesting (Of v) ≡ 0
unfolding nesting
nesting-Of v = search (rules, the_lemmas)

pub nesting-Bin : (op : COp) (a b : CExpr) → nesting (Bin op a b) ≡ above (nesting a ∷ nesting b ∷ [])
unfolding nesting
nesting-Bin op a b = search (rules, the_lemmas)

pub nesting-Choose : (c a b : CExpr) → nesting (Choose c a b) ≡ above (nesting c ∷ nesting a ∷ nesting b ∷ [])
unfolding nesting
nesting-Choose c a b = search (rules, the_lemmas)

-- ---- nesting of the expressions of statements

pub deepest-Set : (v : Var) (e : CExpr) → deepest (Set v e) ≡ nesting e
unfolding deepest
deepest-Set v e = search (rules, stmt_lemmas)

pub deepest-Load : (v : Var) (n : ℕ) (e : CExpr) → deepest (Load v n e) ≡ nesting e
unfolding deepest
deepest-Load v n e = search (rules, stmt_lemmas)

pub deepest-Store : (n : ℕ) (a e : CExpr) → deepest (Store n a e) ≡ largest (nesting a ∷ nesting e ∷ [])
unfolding deepest
deepest-Store n a e = search (rules, stmt_lemmas)

pub deepest-TakeW : (v : Var) (e : CExpr) → deepest (TakeW v e) ≡ nesting e
unfolding deepest
deepest-TakeW v e = search (rules, stmt_lemmas)

pub deepest-PutW : (a e : CExpr) → deepest (PutW a e) ≡ largest (nesting a ∷ nesting e ∷ [])
unfolding deepest
deepest-PutW a e = search (rules, stmt_lemmas)

pub deepest-Serve : (n x y z : CExpr) → deepest (Serve n x y z) ≡ largest (nesting n ∷ nesting x ∷ nesting y ∷ nesting z ∷ [])
unfolding deepest
deepest-Serve n x y z = search (rules, stmt_lemmas)

pub deepest-Call : (f : ℕ) (es : List CExpr) → deepest (Call f es) ≡ largest (map nesting es)
unfolding deepest
deepest-Call f es = search (rules, stmt_lemmas)

pub deepest-If : (e : CExpr) (body : List Stmt) → deepest (If e body) ≡ max (nesting e) (largest (map deepest body))
unfolding deepest
deepest-If e body = search (rules, stmt_lemmas)

pub deepest-Stop : (n : ℕ) (e : CExpr) → deepest (Stop n e) ≡ nesting e
unfolding deepest
deepest-Stop n e = search (rules, stmt_lemmas)

-- ---- nesting of statements

pub ifs-Set : (v : Var) (e : CExpr) → ifs (Set v e) ≡ 0
unfolding ifs
ifs-Set v e = search (rules, stmt_lemmas)

pub ifs-Load : (v : Var) (n : ℕ) (e : CExpr) → ifs (Load v n e) ≡ 0
unfolding ifs
ifs-Load v n e = search (rules, stmt_lemmas)

pub ifs-Store : (n : ℕ) (a e : CExpr) → ifs (Store n a e) ≡ 0
unfolding ifs
ifs-Store n a e = search (rules, stmt_lemmas)

pub ifs-TakeW : (v : Var) (e : CExpr) → ifs (TakeW v e) ≡ 0
unfolding ifs
ifs-TakeW v e = search (rules, stmt_lemmas)

pub ifs-PutW : (a e : CExpr) → ifs (PutW a e) ≡ 0
unfolding ifs
ifs-PutW a e = search (rules, stmt_lemmas)

pub ifs-Serve : (n x y z : CExpr) → ifs (Serve n x y z) ≡ 0
unfolding ifs
ifs-Serve n x y z = search (rules, stmt_lemmas)

pub ifs-Call : (f : ℕ) (es : List CExpr) → ifs (Call f es) ≡ 0
unfolding ifs
ifs-Call f es = search (rules, stmt_lemmas)

pub ifs-If : (e : CExpr) (body : List Stmt) → ifs (If e body) ≡ above (map ifs body)
unfolding ifs
ifs-If e body = search (rules, stmt_lemmas)

pub ifs-Stop : (n : ℕ) (e : CExpr) → ifs (Stop n e) ≡ 0
unfolding ifs
ifs-Stop n e = search (rules, stmt_lemmas)

-- ---- numbers of expressions

pub fit-Num : (n : ℕ) → expr_misfits (Num n) ≡ misfit 64 n
unfolding expr_misfits
fit-Num n = search (rules, the_lemmas)

pub fit-Of : (v : Var) → expr_misfits (Of v) ≡ var_misfits v
unfolding expr_misfits
fit-Of v = search (rules, the_lemmas)

pub fit-Bin : (op : COp) (a b : CExpr) → expr_misfits (Bin op a b) ≡ expr_misfits a + expr_misfits b
unfolding expr_misfits
fit-Bin op a b = search (rules, the_lemmas)

pub fit-Choose : (c a b : CExpr) → expr_misfits (Choose c a b) ≡ expr_misfits c + (expr_misfits a + expr_misfits b)
unfolding expr_misfits
fit-Choose c a b = search (rules, the_lemmas)

-- ---- numbers of statements

pub fit-Set : (v : Var) (e : CExpr) → stmt_misfits (Set v e) ≡ var_misfits v + expr_misfits e
unfolding stmt_misfits
fit-Set v e = search (rules, stmt_lemmas)

pub fit-Load : (v : Var) (n : ℕ) (e : CExpr) → stmt_misfits (Load v n e) ≡ var_misfits v + (misfit 64 n + expr_misfits e)
unfolding stmt_misfits
fit-Load v n e = search (rules, stmt_lemmas)

pub fit-Store : (n : ℕ) (a e : CExpr) → stmt_misfits (Store n a e) ≡ misfit 64 n + (expr_misfits a + expr_misfits e)
unfolding stmt_misfits
fit-Store n a e = search (rules, stmt_lemmas)

pub fit-TakeW : (v : Var) (e : CExpr) → stmt_misfits (TakeW v e) ≡ var_misfits v + expr_misfits e
unfolding stmt_misfits
fit-TakeW v e = search (rules, stmt_lemmas)

pub fit-PutW : (a e : CExpr) → stmt_misfits (PutW a e) ≡ expr_misfits a + expr_misfits e
unfolding stmt_misfits
fit-PutW a e = search (rules, stmt_lemmas)

pub fit-Serve : (n x y z : CExpr) → stmt_misfits (Serve n x y z) ≡ expr_misfits n + (expr_misfits x + (expr_misfits y + expr_misfits z))
unfolding stmt_misfits
fit-Serve n x y z = search (rules, stmt_lemmas)

pub fit-Call : (f : ℕ) (es : List CExpr) → stmt_misfits (Call f es) ≡ misfit 32 f + total (map expr_misfits es)
unfolding stmt_misfits
fit-Call f es = search (rules, stmt_lemmas)

pub fit-If : (e : CExpr) (body : List Stmt) → stmt_misfits (If e body) ≡ expr_misfits e + total (map stmt_misfits body)
unfolding stmt_misfits
fit-If e body = search (rules, stmt_lemmas)

pub fit-Stop : (n : ℕ) (e : CExpr) → stmt_misfits (Stop n e) ≡ misfit 64 n + expr_misfits e
unfolding stmt_misfits
fit-Stop n e = search (rules, stmt_lemmas)
