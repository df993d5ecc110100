-- What expressions and statements mention, form by form.
use Rattle.std.proofs.Common.{◌≡◌, ℕ, List, [], ◌∷◌, ◌++◌, map, length, rules}
use Rattle.c_lang.specs.declared.tree.COp.{COp}
use Rattle.c_lang.specs.declared.tree.Var.{Var}
use Rattle.c_lang.specs.declared.tree.CExpr.{CExpr, the_lemmas}
use Rattle.c_lang.specs.declared.tree.CExpr.TheVariants.{Num, Of, Bin, Choose}
use Rattle.c_lang.specs.declared.tree.Stmt.{Stmt, the_lemmas as stmt_lemmas}
use Rattle.c_lang.specs.declared.tree.Stmt.TheVariants.{Set, Load, Store, TakeW, PutW, Serve, Call, If, Stop}
use Rattle.c_lang.specs.Items.{Name, Calling, Access, together, names_in, mentions_in}

-- ---- expressions

pub names-Num : (n : ℕ) → names_in (Num n) ≡ []
unfolding names_in
names-Num n = search (rules, the_lemmas)

pub names-Of : (v : Var) → names_in (Of v) ≡ Name v ∷ []
unfolding names_in
names-Of v = search (rules, the_lemmas)

pub names-Bin : (op : COp) (a b : CExpr) → names_in (Bin op a b) ≡ names_in a ++ names_in b
unfolding names_in
names-Bin op a b = search (rules, the_lemmas)

pub names-Choose : (c a b : CExpr) → names_in (Choose c a b) ≡ names_in c ++ (names_in a ++ names_in b)
unfolding names_in
names-Choose c a b = search (rules, the_lemmas)

-- ---- statements

pub mentions-Set : (v : Var) (e : CExpr) → mentions_in (Set v e) ≡ Name v ∷ names_in e
unfolding mentions_in
mentions-Set v e = search (rules, stmt_lemmas)

pub mentions-Load : (v : Var) (n : ℕ) (e : CExpr) → mentions_in (Load v n e) ≡ Name v ∷ Access n ∷ names_in e
unfolding mentions_in
mentions-Load v n e = search (rules, stmt_lemmas)

pub mentions-Store : (n : ℕ) (a e : CExpr) → mentions_in (Store n a e) ≡ Access n ∷ (names_in a ++ names_in e)
unfolding mentions_in
mentions-Store n a e = search (rules, stmt_lemmas)

pub mentions-TakeW : (v : Var) (e : CExpr) → mentions_in (TakeW v e) ≡ Name v ∷ names_in e
unfolding mentions_in
mentions-TakeW v e = search (rules, stmt_lemmas)

pub mentions-PutW : (i e : CExpr) → mentions_in (PutW i e) ≡ names_in i ++ names_in e
unfolding mentions_in
mentions-PutW i e = search (rules, stmt_lemmas)

pub mentions-Serve : (n x y z : CExpr) → mentions_in (Serve n x y z) ≡ names_in n ++ (names_in x ++ (names_in y ++ names_in z))
unfolding mentions_in
mentions-Serve n x y z = search (rules, stmt_lemmas)

pub mentions-Call : (entry : ℕ) (es : List CExpr) → mentions_in (Call entry es) ≡ Calling entry (length es) ∷ together (map names_in es)
unfolding mentions_in
mentions-Call entry es = search (rules, stmt_lemmas)

pub mentions-If : (e : CExpr) (body : List Stmt) → mentions_in (If e body) ≡ names_in e ++ together (map mentions_in body)
unfolding mentions_in
mentions-If e body = search (rules, stmt_lemmas)

pub mentions-Stop : (k : ℕ) (e : CExpr) → mentions_in (Stop k e) ≡ names_in e
unfolding mentions_in
mentions-Stop k e = search (rules, stmt_lemmas)
