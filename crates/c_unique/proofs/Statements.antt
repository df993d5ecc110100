-- The tokens of a statement determine it, and where it ends.
use Rattle.std.proofs.Common.{◌≡◌, ℕ, List, [], ◌∷◌, ◌++◌, drop, map, refl, sym, ap, ◌∙◌, subst, arith, append_assoc}
use Rattle.std.specs.List.{flat_map}
use Rattle.std.proofs.lemmas.List.Folds.{flat_map-map}
use Rattle.c_lang.specs.declared.tree.CExpr.{CExpr}
use Rattle.c_lang.specs.declared.tree.CExpr.TheOpen.{CExpr-F}
use Rattle.c_lang.specs.declared.tree.Stmt.{Stmt, ind-Stmt, roll-Stmt, map-Stmt, fold-roll-Stmt}
use Rattle.c_lang.specs.declared.tree.Stmt.TheOpen.{Stmt-F}
use Rattle.c_text.specs.Tokens.{Token, name, plain, word, mark}
use Rattle.c_text.specs.Words.{var_word, function_word}
use Rattle.c_text.specs.Expressions.{expr_toks, listed, var_token}
use Rattle.c_text.specs.Statements.{condition_toks, stmt_toks, node_stmt}
use Rattle.c_lang.specs.Spellable.{expr_misfits, node_stmt_misfits, stmt_misfits}
use Rattle.c_lang.proofs.SpellingLaws.{has_bits}
use Rattle.c_unique.proofs.Alike.{Alike}
use Rattle.c_unique.proofs.Names.{var_same, function_same}
use Rattle.c_unique.proofs.Rows.{first_letter, Each, each_all, each_fits, Sure, no_comma, row_same, listed_same}
use Rattle.c_unique.proofs.Expressions.{spell, spelled, by_form, ExprFits, SureExpr, expr_same}
use Rattle.c_unique.proofs.FirstTokens.{kind, of_set, value_expr}

-- the tokens of a statement and those behind it, by its form
abbrev pub spell_stmt : Stmt-F Stmt → List Token → List Token
spell_stmt (Stmt-F.Set v e) r = var_token v ∷ mark "=" ∷ (expr_toks e ++ mark ";" ∷ r)
spell_stmt (Stmt-F.Load v size e) r = var_token v ∷ mark "=" ∷ word "uq_load" ∷ mark "(" ∷ plain size ∷ mark "," ∷ (expr_toks e ++ mark ")" ∷ mark ";" ∷ r)
spell_stmt (Stmt-F.Store size a e) r = word "uq_store" ∷ mark "(" ∷ plain size ∷ mark "," ∷ (expr_toks a ++ mark "," ∷ (expr_toks e ++ mark ")" ∷ mark ";" ∷ r))
spell_stmt (Stmt-F.TakeW v e) r = var_token v ∷ mark "=" ∷ word "uq_w" ∷ mark "[" ∷ (expr_toks e ++ mark "]" ∷ mark ";" ∷ r)
spell_stmt (Stmt-F.PutW a e) r = word "uq_w" ∷ mark "[" ∷ (expr_toks a ++ mark "]" ∷ mark "=" ∷ (expr_toks e ++ mark ";" ∷ r))
spell_stmt (Stmt-F.Serve n x y z) r =
    word "uq_serve" ∷ mark "(" ∷ (expr_toks n ++ mark "," ∷ (expr_toks x ++ mark "," ∷ (expr_toks y ++ mark "," ∷ (expr_toks z ++ mark ")" ∷ mark ";" ∷ r))))
spell_stmt (Stmt-F.Call f es) r = name (function_word f) ∷ mark "(" ∷ (listed expr_toks es ++ mark ")" ∷ mark ";" ∷ r)
spell_stmt (Stmt-F.If e inner) r = word "if" ∷ mark "(" ∷ (expr_toks e ++ mark ")" ∷ mark "{" ∷ (flat_map stmt_toks inner ++ mark "}" ∷ r))
spell_stmt (Stmt-F.Stop n e) r = word "uq_stop" ∷ mark "(" ∷ plain n ∷ mark "," ∷ (expr_toks e ++ mark ")" ∷ mark ";" ∷ r)

toks_by_form : (x : Stmt-F Stmt) → stmt_toks (roll-Stmt x) ≡ node_stmt (map-Stmt Stmt (List Token) stmt_toks x)
unfolding stmt_toks
toks_by_form x = fold-roll-Stmt (List Token) node_stmt x

pub misfits_by_form : (x : Stmt-F Stmt) → stmt_misfits (roll-Stmt x) ≡ node_stmt_misfits (map-Stmt Stmt ℕ stmt_misfits x)
unfolding stmt_misfits
misfits_by_form x = fold-roll-Stmt ℕ node_stmt_misfits x

if_regrouped : (e : CExpr) (xs : List Stmt) (r : List Token) → (condition_toks e ++ (flat_map stmt_toks xs ++ mark "}" ∷ [])) ++ r ≡ spell_stmt (Stmt-F.If e xs) r
if_regrouped e xs r = simp append_assoc

regrouped : (x : Stmt-F Stmt) (r : List Token) → node_stmt (map-Stmt Stmt (List Token) stmt_toks x) ++ r ≡ spell_stmt x r
regrouped (Stmt-F.Set v e) r = simp append_assoc
regrouped (Stmt-F.Load v size e) r = simp append_assoc
regrouped (Stmt-F.Store size a e) r = simp append_assoc
regrouped (Stmt-F.TakeW v e) r = simp append_assoc
regrouped (Stmt-F.PutW a e) r = simp append_assoc
regrouped (Stmt-F.Serve n x y z) r = simp append_assoc
regrouped (Stmt-F.Call f es) r = simp append_assoc
regrouped (Stmt-F.If e xs) r = ap (λ ts. (condition_toks e ++ (ts ++ mark "}" ∷ [])) ++ r) (flat_map-map (λ ts. ts) stmt_toks xs) ∙ if_regrouped e xs r
regrouped (Stmt-F.Stop n e) r = simp append_assoc

pub spelled_stmt : (x : Stmt-F Stmt) (r : List Token) → stmt_toks (roll-Stmt x) ++ r ≡ spell_stmt x r
spelled_stmt x r = ap (λ ts. ts ++ r) (toks_by_form x) ∙ regrouped x r

-- the kinds of statements
abbrev pub stmt_kind : Stmt-F Stmt → ℕ
stmt_kind (Stmt-F.Set v e) = 1
stmt_kind (Stmt-F.Load v size e) = 2
stmt_kind (Stmt-F.TakeW v e) = 3
stmt_kind (Stmt-F.Store size a e) = 4
stmt_kind (Stmt-F.PutW a e) = 5
stmt_kind (Stmt-F.Serve n x y z) = 6
stmt_kind (Stmt-F.Call f es) = 7
stmt_kind (Stmt-F.If e inner) = 8
stmt_kind (Stmt-F.Stop n e) = 9

pub has_kind : (x : Stmt-F Stmt) (r : List Token) → kind (spell_stmt x r) ≡ stmt_kind x
has_kind (Stmt-F.Set v e) r = of_set v (mark "=") (expr_toks e ++ mark ";" ∷ r) ∙ value_expr (mark ";" ∷ r) e
has_kind (Stmt-F.Load v size e) r = of_set v (mark "=") (word "uq_load" ∷ mark "(" ∷ plain size ∷ mark "," ∷ (expr_toks e ++ mark ")" ∷ mark ";" ∷ r))
has_kind (Stmt-F.TakeW v e) r = of_set v (mark "=") (word "uq_w" ∷ mark "[" ∷ (expr_toks e ++ mark "]" ∷ mark ";" ∷ r))
has_kind (Stmt-F.Store size a e) r = refl
has_kind (Stmt-F.PutW a e) r = refl
has_kind (Stmt-F.Serve n x y z) r = refl
has_kind (Stmt-F.Call f es) r = refl
has_kind (Stmt-F.If e inner) r = refl
has_kind (Stmt-F.Stop n e) r = refl

-- no expression begins with `)`
no_form_closes : (z : CExpr-F CExpr) (t ts : List Token) → spell z t ≡ mark ")" ∷ ts → ⊥
no_form_closes (CExpr-F.Num n) t ts e = cc
no_form_closes (CExpr-F.Of v) t ts e = cc
no_form_closes (CExpr-F.Bin op a b) t ts e = let letters = ap first_letter e in omega (arith, letters)
no_form_closes (CExpr-F.Choose c a b) t ts e = let letters = ap first_letter e in omega (arith, letters)

no_expr_closes : (ts : List Token) (x : CExpr) (t : List Token) → ExprFits x → expr_toks x ++ t ≡ mark ")" ∷ ts → ⊥
no_expr_closes ts x t h = by_form (λ x. expr_toks x ++ t ≡ mark ")" ∷ ts → ⊥) (λ z e. no_form_closes z t ts (sym (spelled z t) ∙ e)) x

-- a statement by its form
pub stmt_by_form : (P : Stmt → Type 0) → ((z : Stmt-F Stmt) → P (roll-Stmt z)) → (s : Stmt) → P s
stmt_by_form P f = ind-Stmt P (λ x y e. let Q : Stmt-F Stmt → Type 0 = λ z. P (roll-Stmt z) in subst Q e (f (map-Stmt _ Stmt (λ e. e.0) y)))

-- each number of a statement has few enough bits
abbrev pub StmtFits : Stmt → Type 0
StmtFits s = stmt_misfits s ≡ 0

-- no statement begins with a `}`
no_stmt_form_closes : (z : Stmt-F Stmt) (t ts : List Token) → spell_stmt z t ≡ mark "}" ∷ ts → ⊥
no_stmt_form_closes (Stmt-F.Set v e) t ts q = cc
no_stmt_form_closes (Stmt-F.Load v size e) t ts q = cc
no_stmt_form_closes (Stmt-F.Store size a e) t ts q = cc
no_stmt_form_closes (Stmt-F.TakeW v e) t ts q = cc
no_stmt_form_closes (Stmt-F.PutW a e) t ts q = cc
no_stmt_form_closes (Stmt-F.Serve n x y z) t ts q = cc
no_stmt_form_closes (Stmt-F.Call f es) t ts q = cc
no_stmt_form_closes (Stmt-F.If e inner) t ts q = cc
no_stmt_form_closes (Stmt-F.Stop n e) t ts q = cc

no_stmt_closes : (ts : List Token) (x : Stmt) (t : List Token) → StmtFits x → stmt_toks x ++ t ≡ mark "}" ∷ ts → ⊥
no_stmt_closes ts x t h = stmt_by_form (λ x. stmt_toks x ++ t ≡ mark "}" ∷ ts → ⊥) (λ z e. no_stmt_form_closes z t ts (sym (spelled_stmt z t) ∙ e)) x

abbrev pub SureStmt : Stmt → Type 0
SureStmt s = Sure stmt_toks StmtFits s

-- the statements within are determined
abbrev SureInner : Stmt-F Stmt → Type 0
SureInner (Stmt-F.If e inner) = Each SureStmt inner
SureInner _ = Unit {0}

abbrev misfits_of : Stmt-F Stmt → ℕ
misfits_of x = node_stmt_misfits (map-Stmt Stmt ℕ stmt_misfits x)

-- by the forms of both
forms_same : (x z : Stmt-F Stmt) (r s : List Token) → SureInner x → misfits_of x ≡ 0 → misfits_of z ≡ 0 → stmt_kind x ≡ stmt_kind z → spell_stmt x r ≡ spell_stmt z s
    → Alike (roll-Stmt x) (roll-Stmt z) r s
forms_same (Stmt-F.Set v a) (Stmt-F.Set w b) r s sure h k t e =
    let names : var_word v ≡ var_word w = cc in
    let vars = var_same v w (omega arith) (omega arith) names in
    let one = expr_same a b (mark ";" ∷ r) (mark ";" ∷ s) (omega arith) (omega arith) (ap (drop 2) e) in
    record { same = λ i. roll-Stmt (Stmt-F.Set (vars i) (one.same i)); rest = ap (drop 1) one.rest }
forms_same (Stmt-F.Load v n a) (Stmt-F.Load w m b) r s sure h k t e =
    let names : var_word v ≡ var_word w = cc in
    let vars = var_same v w (omega arith) (omega arith) names in
    let sizes : n ≡ m = cc in
    let one = expr_same a b (mark ")" ∷ mark ";" ∷ r) (mark ")" ∷ mark ";" ∷ s) (omega arith) (omega arith) (ap (drop 6) e) in
    record { same = λ i. roll-Stmt (Stmt-F.Load (vars i) (sizes i) (one.same i)); rest = ap (drop 2) one.rest }
forms_same (Stmt-F.Store n a b) (Stmt-F.Store m c d) r s sure h k t e =
    let sizes : n ≡ m = cc in
    let one = expr_same a c (mark "," ∷ (expr_toks b ++ mark ")" ∷ mark ";" ∷ r)) (mark "," ∷ (expr_toks d ++ mark ")" ∷ mark ";" ∷ s)) (omega arith) (omega arith) (ap (drop 4) e) in
    let two = expr_same b d (mark ")" ∷ mark ";" ∷ r) (mark ")" ∷ mark ";" ∷ s) (omega arith) (omega arith) (ap (drop 1) one.rest) in
    record { same = λ i. roll-Stmt (Stmt-F.Store (sizes i) (one.same i) (two.same i)); rest = ap (drop 2) two.rest }
forms_same (Stmt-F.TakeW v a) (Stmt-F.TakeW w b) r s sure h k t e =
    let names : var_word v ≡ var_word w = cc in
    let vars = var_same v w (omega arith) (omega arith) names in
    let one = expr_same a b (mark "]" ∷ mark ";" ∷ r) (mark "]" ∷ mark ";" ∷ s) (omega arith) (omega arith) (ap (drop 4) e) in
    record { same = λ i. roll-Stmt (Stmt-F.TakeW (vars i) (one.same i)); rest = ap (drop 2) one.rest }
forms_same (Stmt-F.PutW a b) (Stmt-F.PutW c d) r s sure h k t e =
    let one = expr_same a c (mark "]" ∷ mark "=" ∷ (expr_toks b ++ mark ";" ∷ r)) (mark "]" ∷ mark "=" ∷ (expr_toks d ++ mark ";" ∷ s)) (omega arith) (omega arith) (ap (drop 2) e) in
    let two = expr_same b d (mark ";" ∷ r) (mark ";" ∷ s) (omega arith) (omega arith) (ap (drop 2) one.rest) in
    record { same = λ i. roll-Stmt (Stmt-F.PutW (one.same i) (two.same i)); rest = ap (drop 1) two.rest }
forms_same (Stmt-F.Serve n x y z) (Stmt-F.Serve m a b c) r s sure h k t e =
    let one = expr_same n m (mark "," ∷ (expr_toks x ++ mark "," ∷ (expr_toks y ++ mark "," ∷ (expr_toks z ++ mark ")" ∷ mark ";" ∷ r))))
    (mark "," ∷ (expr_toks a ++ mark "," ∷ (expr_toks b ++ mark "," ∷ (expr_toks c ++ mark ")" ∷ mark ";" ∷ s)))) (omega arith) (omega arith) (ap (drop 2) e) in
    let two = expr_same x a (mark "," ∷ (expr_toks y ++ mark "," ∷ (expr_toks z ++ mark ")" ∷ mark ";" ∷ r))) (mark "," ∷ (expr_toks b ++ mark "," ∷ (expr_toks c ++ mark ")" ∷ mark ";" ∷ s)))
    (omega arith) (omega arith) (ap (drop 1) one.rest) in
    let three = expr_same y b (mark "," ∷ (expr_toks z ++ mark ")" ∷ mark ";" ∷ r)) (mark "," ∷ (expr_toks c ++ mark ")" ∷ mark ";" ∷ s)) (omega arith) (omega arith) (ap (drop 1) two.rest) in
    let four = expr_same z c (mark ")" ∷ mark ";" ∷ r) (mark ")" ∷ mark ";" ∷ s) (omega arith) (omega arith) (ap (drop 1) three.rest) in
    record { same = λ i. roll-Stmt (Stmt-F.Serve (one.same i) (two.same i) (three.same i) (four.same i)); rest = ap (drop 2) four.rest }
forms_same (Stmt-F.Call f es) (Stmt-F.Call g ds) r s sure h k t e =
    let names : function_word f ≡ function_word g = cc in
    let entries = function_same f g (has_bits 32 f (omega arith)) (has_bits 32 g (omega arith)) names in
    let all = listed_same expr_toks ExprFits es ds (mark ")" ∷ mark ";" ∷ r) (mark ")" ∷ mark ";" ∷ s) (each_all SureExpr expr_same es)
    (no_expr_closes (mark ";" ∷ r)) (no_expr_closes (mark ";" ∷ s)) (no_comma (mark ";" ∷ r)) (no_comma (mark ";" ∷ s)) (each_fits expr_misfits es (omega arith)) (each_fits expr_misfits ds (omega arith)) (ap (drop 2) e) in
    record { same = λ i. roll-Stmt (Stmt-F.Call (entries i) (all.same i)); rest = ap (drop 2) all.rest }
forms_same (Stmt-F.If a xs) (Stmt-F.If b ys) r s sure h k t e =
    let one = expr_same a b (mark ")" ∷ mark "{" ∷ (flat_map stmt_toks xs ++ mark "}" ∷ r)) (mark ")" ∷ mark "{" ∷ (flat_map stmt_toks ys ++ mark "}" ∷ s)) (omega arith) (omega arith) (ap (drop 2) e) in
    let all = row_same stmt_toks StmtFits xs ys (mark "}" ∷ r) (mark "}" ∷ s) sure (no_stmt_closes r) (no_stmt_closes s) (each_fits stmt_misfits xs (omega arith)) (each_fits stmt_misfits ys (omega arith)) (ap (drop 2) one.rest) in
    record { same = λ i. roll-Stmt (Stmt-F.If (one.same i) (all.same i)); rest = ap (drop 1) all.rest }
forms_same (Stmt-F.Stop n a) (Stmt-F.Stop m b) r s sure h k t e =
    let numbers : n ≡ m = cc in
    let one = expr_same a b (mark ")" ∷ mark ";" ∷ r) (mark ")" ∷ mark ";" ∷ s) (omega arith) (omega arith) (ap (drop 4) e) in
    record { same = λ i. roll-Stmt (Stmt-F.Stop (numbers i) (one.same i)); rest = ap (drop 2) one.rest }
forms_same x z r s _ _ _ t _ = absurd (omega (arith, t))

rolled_sure : (x : Stmt-F Stmt) → SureInner x → SureStmt (roll-Stmt x)
rolled_sure x sure = stmt_by_form (λ b. (r s : List Token) → StmtFits (roll-Stmt x) → StmtFits b → stmt_toks (roll-Stmt x) ++ r ≡ stmt_toks b ++ s → Alike (roll-Stmt x) b r s)
    (λ z r s h k e.
    let forms : spell_stmt x r ≡ spell_stmt z s = sym (spelled_stmt x r) ∙ e ∙ spelled_stmt z s in
    forms_same x z r s sure (sym (misfits_by_form x) ∙ h) (sym (misfits_by_form z) ∙ k) (sym (has_kind x r) ∙ ap kind forms ∙ has_kind z s) forms)

each_within : (xs : List ((s : Stmt) × SureStmt s)) → Each SureStmt (map (λ e. e.0) xs)
each_within [] = tt
each_within (x ∷ xs) = (x.1, each_within xs)

inner_sure : (y : Stmt-F ((s : Stmt) × SureStmt s)) → SureInner (map-Stmt _ Stmt (λ e. e.0) y)
inner_sure (Stmt-F.Set v e) = tt
inner_sure (Stmt-F.Load v size e) = tt
inner_sure (Stmt-F.Store size a e) = tt
inner_sure (Stmt-F.TakeW v e) = tt
inner_sure (Stmt-F.PutW a e) = tt
inner_sure (Stmt-F.Serve n x y z) = tt
inner_sure (Stmt-F.Call f es) = tt
inner_sure (Stmt-F.If e inner) = each_within inner
inner_sure (Stmt-F.Stop n e) = tt

-- each statement is determined
pub stmt_same : (s : Stmt) → SureStmt s
stmt_same = ind-Stmt SureStmt (λ x y e. let Q : Stmt-F Stmt → Type 0 = λ z. SureStmt (roll-Stmt z) in subst Q e (rolled_sure (map-Stmt _ Stmt (λ e. e.0) y) (inner_sure y)))
