-- How each kind of expression and statement is spelled, as equations.
use Rattle.std.proofs.Common.{◌≡◌, ℕ, List, [], ◌∷◌, ◌++◌, sym, ap, ◌∙◌, rules, append_assoc}
use Rattle.std.specs.List.{flat_map}
use Rattle.std.proofs.lemmas.List.{append-nil}
use Rattle.std.proofs.lemmas.List.Folds.{flat_map-map}
use Rattle.c_lang.specs.declared.tree.COp.{COp}
use Rattle.c_lang.specs.declared.tree.CExpr.{CExpr, fold-roll-CExpr, the_lemmas}
use Rattle.c_lang.specs.declared.tree.CExpr.TheOpen.{CExpr-F}
use Rattle.c_lang.specs.declared.tree.CExpr.TheVariants.{Num, Of, Bin, Choose, rolls-Num, rolls-Choose}
use Rattle.c_lang.specs.declared.tree.Stmt.{Stmt, fold-roll-Stmt}
use Rattle.c_lang.specs.declared.tree.Stmt.TheVariants.{Set, Load, Store, TakeW, PutW, Serve, Call, If, Stop, rolls-Set, rolls-Load, rolls-Store, rolls-TakeW, rolls-PutW, rolls-Serve, rolls-Call, rolls-If, rolls-Stop}
use Rattle.c_lang.specs.declared.tree.Stmt.TheOpen.{Stmt-F}
use Rattle.c_lang.specs.declared.tree.Var.{Var}
use Rattle.c_text.specs.Tokens.{Token, name, plain, long, sign, word, mark}
use Rattle.c_text.specs.Expressions.{expr_toks, node_toks, listed, op_sign, var_token}
use Rattle.c_text.specs.Words.{function_word}
use Rattle.c_text.specs.Statements.{condition_toks, stmt_toks, node_stmt}

pub toks-Num : (n : ℕ) → expr_toks (Num n) ≡ long n ∷ []
unfolding expr_toks
toks-Num n = ap expr_toks (sym (rolls-Num n)) ∙ fold-roll-CExpr (List Token) node_toks (CExpr-F.Num n)

pub toks-Of : (v : Var) → expr_toks (Of v) ≡ var_token v ∷ []
unfolding expr_toks
toks-Of v = search (rules, the_lemmas)

pub toks-Bin : (op : COp) (a b : CExpr) → expr_toks (Bin op a b) ≡ mark "(" ∷ (expr_toks a ++ sign (op_sign op) ∷ (expr_toks b ++ mark ")" ∷ []))
unfolding expr_toks
toks-Bin op a b = search (rules, the_lemmas)

pub toks-Choose : (c a b : CExpr) → expr_toks (Choose c a b) ≡ mark "(" ∷ (expr_toks c ++ mark "?" ∷ (expr_toks a ++ mark ":" ∷ (expr_toks b ++ mark ")" ∷ [])))
unfolding expr_toks
toks-Choose c a b = ap expr_toks (sym (rolls-Choose c a b)) ∙ fold-roll-CExpr (List Token) node_toks (CExpr-F.Choose c a b)

pub ruleset expr_laws = (toks-Num, toks-Of, toks-Bin, toks-Choose)

-- a number and a variable, with what is behind it
pub num_parts : (e : CExpr) (n : ℕ) (ts : List Token) → e ≡ Num n → expr_toks e ++ ts ≡ long n ∷ ts
num_parts e n ts is = rw is (ap (λ us. us ++ ts) (toks-Num n))

pub var_parts : (e : CExpr) (v : Var) (ts : List Token) → e ≡ Of v → expr_toks e ++ ts ≡ var_token v ∷ ts
var_parts e v ts is = rw is (ap (λ us. us ++ ts) (toks-Of v))

bin_regrouped : (a s b ts : List Token) → (mark "(" ∷ (a ++ (s ++ (b ++ mark ")" ∷ [])))) ++ ts ≡ mark "(" ∷ ((a ++ s) ++ (b ++ mark ")" ∷ ts))
bin_regrouped a s b ts = simp append_assoc

choose_regrouped : (c q a k b ts : List Token) → (mark "(" ∷ (c ++ (q ++ (a ++ (k ++ (b ++ mark ")" ∷ [])))))) ++ ts ≡ mark "(" ∷ ((c ++ q) ++ ((a ++ k) ++ (b ++ mark ")" ∷ ts)))
choose_regrouped c q a k b ts = simp append_assoc

-- each part with the sign behind it, and what is behind the last
pub bin_parts : (e : CExpr) (op : COp) (a b x y : CExpr) (s : List ℕ) (ts : List Token) → e ≡ Bin op a b → x ≡ a → s ≡ op_sign op → y ≡ b
    → expr_toks e ++ ts ≡ mark "(" ∷ ((expr_toks x ++ sign s ∷ []) ++ (expr_toks y ++ mark ")" ∷ ts))
bin_parts e op a b x y s ts is left by right =
    rw (is, left, by, right) (ap (λ us. us ++ ts) (toks-Bin op a b) ∙ bin_regrouped (expr_toks a) (sign (op_sign op) ∷ []) (expr_toks b) ts)

pub choose_parts : (e c a b z x y : CExpr) (ts : List Token) → e ≡ Choose c a b → z ≡ c → x ≡ a → y ≡ b
    → expr_toks e ++ ts ≡ mark "(" ∷ ((expr_toks z ++ mark "?" ∷ []) ++ ((expr_toks x ++ mark ":" ∷ []) ++ (expr_toks y ++ mark ")" ∷ ts)))
choose_parts e c a b z x y ts is test left right =
    rw (is, test, left, right)
    (ap (λ us. us ++ ts) (toks-Choose c a b) ∙ choose_regrouped (expr_toks c) (mark "?" ∷ []) (expr_toks a) (mark ":" ∷ []) (expr_toks b) ts)

-- an expression with a blank behind it, and then a sign; one with the sign that closes, and then more
pub before_parts : (e : CExpr) (s : List ℕ) → expr_toks e ++ sign s ∷ [] ≡ (expr_toks e ++ []) ++ sign s ∷ []
before_parts e s = ap (λ us. us ++ sign s ∷ []) (sym (append-nil (expr_toks e)))

pub last_parts : (e : CExpr) (ts : List Token) → expr_toks e ++ mark ")" ∷ ts ≡ (expr_toks e ++ mark ")" ∷ []) ++ ts
last_parts e ts = sym (append_assoc (expr_toks e) (mark ")" ∷ []) ts)

pub toks-Set : (v : Var) (e : CExpr) → stmt_toks (Set v e) ≡ var_token v ∷ mark "=" ∷ (expr_toks e ++ mark ";" ∷ [])
unfolding stmt_toks
toks-Set v e = ap stmt_toks (sym (rolls-Set v e)) ∙ fold-roll-Stmt (List Token) node_stmt (Stmt-F.Set v e)

pub toks-Load : (v : Var) (n : ℕ) (e : CExpr) → stmt_toks (Load v n e) ≡ var_token v ∷ mark "=" ∷ word "uq_load" ∷ mark "(" ∷ plain n ∷ mark "," ∷ (expr_toks e ++ mark ")" ∷ mark ";" ∷ [])
unfolding stmt_toks
toks-Load v n e = ap stmt_toks (sym (rolls-Load v n e)) ∙ fold-roll-Stmt (List Token) node_stmt (Stmt-F.Load v n e)

pub toks-Store : (n : ℕ) (a e : CExpr) → stmt_toks (Store n a e) ≡ word "uq_store" ∷ mark "(" ∷ plain n ∷ mark "," ∷ (expr_toks a ++ mark "," ∷ (expr_toks e ++ mark ")" ∷ mark ";" ∷ []))
unfolding stmt_toks
toks-Store n a e = ap stmt_toks (sym (rolls-Store n a e)) ∙ fold-roll-Stmt (List Token) node_stmt (Stmt-F.Store n a e)

pub toks-TakeW : (v : Var) (e : CExpr) → stmt_toks (TakeW v e) ≡ var_token v ∷ mark "=" ∷ word "uq_w" ∷ mark "[" ∷ (expr_toks e ++ mark "]" ∷ mark ";" ∷ [])
unfolding stmt_toks
toks-TakeW v e = ap stmt_toks (sym (rolls-TakeW v e)) ∙ fold-roll-Stmt (List Token) node_stmt (Stmt-F.TakeW v e)

pub toks-PutW : (a e : CExpr) → stmt_toks (PutW a e) ≡ word "uq_w" ∷ mark "[" ∷ (expr_toks a ++ mark "]" ∷ mark "=" ∷ (expr_toks e ++ mark ";" ∷ []))
unfolding stmt_toks
toks-PutW a e = ap stmt_toks (sym (rolls-PutW a e)) ∙ fold-roll-Stmt (List Token) node_stmt (Stmt-F.PutW a e)

pub toks-Serve : (n x y z : CExpr) → stmt_toks (Serve n x y z) ≡ word "uq_serve" ∷ mark "(" ∷ (expr_toks n ++ mark "," ∷ (expr_toks x ++ mark "," ∷ (expr_toks y ++ mark "," ∷ (expr_toks z ++ mark ")" ∷ mark ";" ∷ []))))
unfolding stmt_toks
toks-Serve n x y z = ap stmt_toks (sym (rolls-Serve n x y z)) ∙ fold-roll-Stmt (List Token) node_stmt (Stmt-F.Serve n x y z)

pub toks-Call : (f : ℕ) (es : List CExpr) → stmt_toks (Call f es) ≡ name (function_word f) ∷ mark "(" ∷ (listed expr_toks es ++ mark ")" ∷ mark ";" ∷ [])
unfolding stmt_toks
toks-Call f es = ap stmt_toks (sym (rolls-Call f es)) ∙ fold-roll-Stmt (List Token) node_stmt (Stmt-F.Call f es)

pub toks-If : (e : CExpr) (xs : List Stmt) → stmt_toks (If e xs) ≡ condition_toks e ++ (flat_map stmt_toks xs ++ mark "}" ∷ [])
unfolding stmt_toks
toks-If e xs = ap stmt_toks (sym (rolls-If e xs)) ∙ fold-roll-Stmt (List Token) node_stmt (Stmt-F.If e xs) ∙ ap (λ ts. condition_toks e ++ (ts ++ mark "}" ∷ [])) (flat_map-map (λ ts. ts) stmt_toks xs)

pub if_parts : (s : Stmt) (e : CExpr) (xs ys : List Stmt) → s ≡ If e xs → ys ≡ xs → stmt_toks s ≡ condition_toks e ++ (flat_map stmt_toks ys ++ mark "}" ∷ [])
if_parts s e xs ys is same = rw (is, same) (toks-If e xs)

pub toks-Stop : (n : ℕ) (e : CExpr) → stmt_toks (Stop n e) ≡ word "uq_stop" ∷ mark "(" ∷ plain n ∷ mark "," ∷ (expr_toks e ++ mark ")" ∷ mark ";" ∷ [])
unfolding stmt_toks
toks-Stop n e = ap stmt_toks (sym (rolls-Stop n e)) ∙ fold-roll-Stmt (List Token) node_stmt (Stmt-F.Stop n e)

pub ruleset stmt_laws = (toks-Set, toks-Load, toks-Store, toks-TakeW, toks-PutW, toks-Serve, toks-Call, toks-Stop)
