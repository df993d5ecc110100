-- The layer of each statement, and what it does.
use Rattle.std.proofs.Common.{◌≡◌, ℕ, rules, ap, List}
use Rattle.c_lang.specs.declared.tree.Var.{Var}
use Rattle.c_lang.specs.declared.tree.CExpr.{CExpr}
use Rattle.c_lang.specs.declared.tree.End.{End}
use Rattle.c_lang.specs.declared.tree.Program.{Program}
use Rattle.c_lang.specs.declared.tree.Stmt.{Stmt, out-Stmt, the_lemmas}
use Rattle.c_lang.specs.declared.tree.Stmt.TheOpen.{Stmt-F}
use Rattle.c_lang.specs.declared.tree.Stmt.TheVariants as S
use Rattle.c_lang.specs.State.{State}
use Rattle.c_lang.specs.Step.{done, done_at}

pub out-Set : (v : Var) (e : CExpr) → out-Stmt (S.Set v e) ≡ Stmt-F.Set v e
out-Set v e = search (rules, the_lemmas)

pub out-Load : (v : Var) (n : ℕ) (e : CExpr) → out-Stmt (S.Load v n e) ≡ Stmt-F.Load v n e
out-Load v n e = search (rules, the_lemmas)

pub out-Store : (n : ℕ) (a e : CExpr) → out-Stmt (S.Store n a e) ≡ Stmt-F.Store n a e
out-Store n a e = search (rules, the_lemmas)

pub out-TakeW : (v : Var) (e : CExpr) → out-Stmt (S.TakeW v e) ≡ Stmt-F.TakeW v e
out-TakeW v e = search (rules, the_lemmas)

pub out-PutW : (i e : CExpr) → out-Stmt (S.PutW i e) ≡ Stmt-F.PutW i e
out-PutW i e = search (rules, the_lemmas)

pub out-Serve : (n x y z : CExpr) → out-Stmt (S.Serve n x y z) ≡ Stmt-F.Serve n x y z
out-Serve n x y z = search (rules, the_lemmas)

pub out-Call : (entry : ℕ) (es : List CExpr) → out-Stmt (S.Call entry es) ≡ Stmt-F.Call entry es
out-Call entry es = search (rules, the_lemmas)

pub out-If : (e : CExpr) (body : List Stmt) → out-Stmt (S.If e body) ≡ Stmt-F.If e body
out-If e body = search (rules, the_lemmas)

pub out-Stop : (k : ℕ) (e : CExpr) → out-Stmt (S.Stop k e) ≡ Stmt-F.Stop k e
out-Stop k e = search (rules, the_lemmas)

pub done-Set : (p : Program) (s : State) (v : Var) (e : CExpr) (rest : List Stmt) (end : End) → done p s (S.Set v e) rest end ≡ done_at p s (Stmt-F.Set v e) rest end
unfolding done
done-Set p s v e rest end = ap (λ x. done_at p s x rest end) (out-Set v e)

pub done-Load : (p : Program) (s : State) (v : Var) (n : ℕ) (e : CExpr) (rest : List Stmt) (end : End) → done p s (S.Load v n e) rest end ≡ done_at p s (Stmt-F.Load v n e) rest end
unfolding done
done-Load p s v n e rest end = ap (λ x. done_at p s x rest end) (out-Load v n e)

pub done-Store : (p : Program) (s : State) (n : ℕ) (a e : CExpr) (rest : List Stmt) (end : End) → done p s (S.Store n a e) rest end ≡ done_at p s (Stmt-F.Store n a e) rest end
unfolding done
done-Store p s n a e rest end = ap (λ x. done_at p s x rest end) (out-Store n a e)

pub done-TakeW : (p : Program) (s : State) (v : Var) (e : CExpr) (rest : List Stmt) (end : End) → done p s (S.TakeW v e) rest end ≡ done_at p s (Stmt-F.TakeW v e) rest end
unfolding done
done-TakeW p s v e rest end = ap (λ x. done_at p s x rest end) (out-TakeW v e)

pub done-PutW : (p : Program) (s : State) (i e : CExpr) (rest : List Stmt) (end : End) → done p s (S.PutW i e) rest end ≡ done_at p s (Stmt-F.PutW i e) rest end
unfolding done
done-PutW p s i e rest end = ap (λ x. done_at p s x rest end) (out-PutW i e)

pub done-Serve : (p : Program) (s : State) (n x y z : CExpr) (rest : List Stmt) (end : End) → done p s (S.Serve n x y z) rest end ≡ done_at p s (Stmt-F.Serve n x y z) rest end
unfolding done
done-Serve p s n x y z rest end = ap (λ x. done_at p s x rest end) (out-Serve n x y z)

pub done-Call : (p : Program) (s : State) (entry : ℕ) (es : List CExpr) (rest : List Stmt) (end : End) → done p s (S.Call entry es) rest end ≡ done_at p s (Stmt-F.Call entry es) rest end
unfolding done
done-Call p s entry es rest end = ap (λ x. done_at p s x rest end) (out-Call entry es)

pub done-If : (p : Program) (s : State) (e : CExpr) (body : List Stmt) (rest : List Stmt) (end : End) → done p s (S.If e body) rest end ≡ done_at p s (Stmt-F.If e body) rest end
unfolding done
done-If p s e body rest end = ap (λ x. done_at p s x rest end) (out-If e body)

pub done-Stop : (p : Program) (s : State) (k : ℕ) (e : CExpr) (rest : List Stmt) (end : End) → done p s (S.Stop k e) rest end ≡ done_at p s (Stmt-F.Stop k e) rest end
unfolding done
done-Stop p s k e rest end = ap (λ x. done_at p s x rest end) (out-Stop k e)

pub ruleset out_laws = (out-Set, out-Load, out-Store, out-TakeW, out-PutW, out-Serve, out-Call, out-If, out-Stop)

pub ruleset done_laws = (done-Set, done-Load, done-Store, done-TakeW, done-PutW, done-Serve, done-Call, done-If, done-Stop)
