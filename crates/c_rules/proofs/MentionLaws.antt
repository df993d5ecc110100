-- What an expression and a statement mention, one form after another.
use Rattle.std.proofs.Common.{◌≡◌, ℕ, List, [], ◌∷◌, ◌++◌, map, length, rules}
use Rattle.c_lang.specs.declared.tree.COp.{COp}
use Rattle.c_lang.specs.declared.tree.Var.{Var}
use Rattle.c_lang.specs.declared.tree.CExpr.{CExpr, the_lemmas}
use Rattle.c_lang.specs.declared.tree.CExpr.TheVariants.{Num, Of, Bin, Choose}
use Rattle.c_lang.specs.declared.tree.Stmt.{Stmt, the_lemmas as stmt_lemmas}
use Rattle.c_lang.specs.declared.tree.Stmt.TheVariants.{Set, Load, Store, TakeW, PutW, Serve, Call, If, Stop}
use Rattle.c_lang.specs.Items.{Name, Calling, Access, together, names_in, mentions_in}

-- ---- expressions

pub in_number : (n : ℕ) → names_in (Num n) ≡ []
unfolding names_in
in_number n = search (rules, the_lemmas)

pub in_variable : (v : Var) → names_in (Of v) ≡ Name v ∷ []
unfolding names_in
in_variable v = search (rules, the_lemmas)

pub in_both : (op : COp) (left right : CExpr) → names_in (Bin op left right) ≡ names_in left ++ names_in right
unfolding names_in
in_both op left right = search (rules, the_lemmas)

pub in_choice : (test left right : CExpr) → names_in (Choose test left right) ≡ names_in test ++ (names_in left ++ names_in right)
unfolding names_in
in_choice test left right = search (rules, the_lemmas)

-- ---- statements

pub in_set : (v : Var) (value : CExpr) → mentions_in (Set v value) ≡ Name v ∷ names_in value
unfolding mentions_in
in_set v value = search (rules, stmt_lemmas)

pub in_load : (v : Var) (size : ℕ) (at : CExpr) → mentions_in (Load v size at) ≡ Name v ∷ Access size ∷ names_in at
unfolding mentions_in
in_load v size at = search (rules, stmt_lemmas)

pub in_store : (size : ℕ) (at value : CExpr) → mentions_in (Store size at value) ≡ Access size ∷ (names_in at ++ names_in value)
unfolding mentions_in
in_store size at value = search (rules, stmt_lemmas)

pub in_take : (v : Var) (place : CExpr) → mentions_in (TakeW v place) ≡ Name v ∷ names_in place
unfolding mentions_in
in_take v place = search (rules, stmt_lemmas)

pub in_put : (place value : CExpr) → mentions_in (PutW place value) ≡ names_in place ++ names_in value
unfolding mentions_in
in_put place value = search (rules, stmt_lemmas)

pub in_serve : (n x y z : CExpr) → mentions_in (Serve n x y z) ≡ names_in n ++ (names_in x ++ (names_in y ++ names_in z))
unfolding mentions_in
in_serve n x y z = search (rules, stmt_lemmas)

pub in_call : (entry : ℕ) (args : List CExpr) → mentions_in (Call entry args) ≡ Calling entry (length args) ∷ together (map names_in args)
unfolding mentions_in
in_call entry args = search (rules, stmt_lemmas)

pub in_if : (test : CExpr) (inner : List Stmt) → mentions_in (If test inner) ≡ names_in test ++ together (map mentions_in inner)
unfolding mentions_in
in_if test inner = search (rules, stmt_lemmas)

pub in_stop : (kind : ℕ) (value : CExpr) → mentions_in (Stop kind value) ≡ names_in value
unfolding mentions_in
in_stop kind value = search (rules, stmt_lemmas)

pub ruleset mention_laws = (in_number, in_variable, in_both, in_choice, in_set, in_load, in_store, in_take, in_put, in_serve, in_call, in_if, in_stop)
