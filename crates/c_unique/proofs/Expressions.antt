-- The tokens of an expression determine it, and where it ends.
use Rattle.std.proofs.Common.{◌≡◌, ℕ, List, ◌∷◌, ◌++◌, drop, refl, sym, ap, ◌∙◌, subst, arith, append_assoc}
use Rattle.std.specs.Prelude.{codes}
use Rattle.c_lang.specs.declared.tree.CExpr.{CExpr, ind-CExpr, roll-CExpr, map-CExpr, fold-roll-CExpr}
use Rattle.c_lang.specs.declared.tree.CExpr.TheOpen.{CExpr-F}
use Rattle.c_text.specs.Tokens.{Token, long, sign, mark}
use Rattle.c_text.specs.Words.{var_word}
use Rattle.c_text.specs.Expressions.{expr_toks, node_toks, op_sign, var_token}
use Rattle.c_lang.specs.Spellable.{node_misfits, expr_misfits}
use Rattle.c_unique.proofs.Alike.{Alike}
use Rattle.c_unique.proofs.Names.{var_same, op_same, no_question}
use Rattle.c_unique.proofs.Rows.{Sure}

-- the tokens of an expression and those behind it, by its form
abbrev pub spell : CExpr-F CExpr → List Token → List Token
spell (CExpr-F.Num n) r = long n ∷ r
spell (CExpr-F.Of v) r = var_token v ∷ r
spell (CExpr-F.Bin op a b) r = mark "(" ∷ (expr_toks a ++ sign (op_sign op) ∷ (expr_toks b ++ mark ")" ∷ r))
spell (CExpr-F.Choose c a b) r = mark "(" ∷ (expr_toks c ++ mark "?" ∷ (expr_toks a ++ mark ":" ∷ (expr_toks b ++ mark ")" ∷ r)))

toks_by_form : (x : CExpr-F CExpr) → expr_toks (roll-CExpr x) ≡ node_toks (map-CExpr CExpr (List Token) expr_toks x)
unfolding expr_toks
toks_by_form x = fold-roll-CExpr (List Token) node_toks x

misfits_by_form : (x : CExpr-F CExpr) → expr_misfits (roll-CExpr x) ≡ node_misfits (map-CExpr CExpr ℕ expr_misfits x)
unfolding expr_misfits
misfits_by_form x = fold-roll-CExpr ℕ node_misfits x

regrouped : (x : CExpr-F CExpr) (r : List Token) → node_toks (map-CExpr CExpr (List Token) expr_toks x) ++ r ≡ spell x r
regrouped (CExpr-F.Num n) r = refl
regrouped (CExpr-F.Of v) r = refl
regrouped (CExpr-F.Bin op a b) r = simp append_assoc
regrouped (CExpr-F.Choose c a b) r = simp append_assoc

pub spelled : (x : CExpr-F CExpr) (r : List Token) → expr_toks (roll-CExpr x) ++ r ≡ spell x r
spelled x r = ap (λ ts. ts ++ r) (toks_by_form x) ∙ regrouped x r

-- each number of an expression has few enough bits
abbrev pub ExprFits : CExpr → Type 0
ExprFits e = expr_misfits e ≡ 0

abbrev pub SureExpr : CExpr → Type 0
SureExpr e = Sure expr_toks ExprFits e

-- the parts are determined
abbrev SureParts : CExpr-F CExpr → Type 0
SureParts (CExpr-F.Num n) = Unit {0}
SureParts (CExpr-F.Of v) = Unit {0}
SureParts (CExpr-F.Bin op a b) = SureExpr a × SureExpr b
SureParts (CExpr-F.Choose c a b) = SureExpr c × SureExpr a × SureExpr b

abbrev misfits_of : CExpr-F CExpr → ℕ
misfits_of x = node_misfits (map-CExpr CExpr ℕ expr_misfits x)

-- by the forms of both
forms_same : (x z : CExpr-F CExpr) (r s : List Token) → SureParts x → misfits_of x ≡ 0 → misfits_of z ≡ 0 → spell x r ≡ spell z s → Alike (roll-CExpr x) (roll-CExpr z) r s
forms_same (CExpr-F.Num n) (CExpr-F.Num m) r s sure h k e = let p : n ≡ m = cc in record { same = ap (λ i. roll-CExpr (CExpr-F.Num i)) p; rest = cc }
forms_same (CExpr-F.Of v) (CExpr-F.Of w) r s sure h k e =
    let p : var_word v ≡ var_word w = cc in
    record { same = ap (λ u. roll-CExpr (CExpr-F.Of u)) (var_same v w h k p); rest = cc }
forms_same (CExpr-F.Bin op a b) (CExpr-F.Bin oq c d) r s sure h k e =
    let one = sure.0 c (sign (op_sign op) ∷ (expr_toks b ++ mark ")" ∷ r)) (sign (op_sign oq) ∷ (expr_toks d ++ mark ")" ∷ s)) (omega arith) (omega arith) (ap (drop 1) e) in
    let behind = one.rest in
    let signs : op_sign op ≡ op_sign oq = cc in
    let two = sure.1 d (mark ")" ∷ r) (mark ")" ∷ s) (omega arith) (omega arith) (ap (drop 1) behind) in
    let rest = two.rest in
    record { same = λ i. roll-CExpr (CExpr-F.Bin (op_same op oq signs i) (one.same i) (two.same i)); rest = cc }
forms_same (CExpr-F.Choose c a b) (CExpr-F.Choose f d g) r s sure h k e =
    let one = sure.0 f (mark "?" ∷ (expr_toks a ++ mark ":" ∷ (expr_toks b ++ mark ")" ∷ r))) (mark "?" ∷ (expr_toks d ++ mark ":" ∷ (expr_toks g ++ mark ")" ∷ s))) (omega arith) (omega arith) (ap (drop 1) e) in
    let two = sure.1 d (mark ":" ∷ (expr_toks b ++ mark ")" ∷ r)) (mark ":" ∷ (expr_toks g ++ mark ")" ∷ s)) (omega arith) (omega arith) (ap (drop 1) one.rest) in
    let three = sure.2 g (mark ")" ∷ r) (mark ")" ∷ s) (omega arith) (omega arith) (ap (drop 1) two.rest) in
    record { same = λ i. roll-CExpr (CExpr-F.Choose (one.same i) (two.same i) (three.same i)); rest = ap (drop 1) three.rest }
forms_same (CExpr-F.Bin op a b) (CExpr-F.Choose f d g) r s sure h k e =
    let one = sure.0 f (sign (op_sign op) ∷ (expr_toks b ++ mark ")" ∷ r)) (mark "?" ∷ (expr_toks d ++ mark ":" ∷ (expr_toks g ++ mark ")" ∷ s))) (omega arith) (omega arith) (ap (drop 1) e) in
    let behind = one.rest in
    let signs : op_sign op ≡ codes "?" = cc in
    absurd (no_question op signs)
forms_same (CExpr-F.Choose c a b) (CExpr-F.Bin oq d f) r s sure h k e =
    let one = sure.0 d (mark "?" ∷ (expr_toks a ++ mark ":" ∷ (expr_toks b ++ mark ")" ∷ r))) (sign (op_sign oq) ∷ (expr_toks f ++ mark ")" ∷ s)) (omega arith) (omega arith) (ap (drop 1) e) in
    let behind = one.rest in
    let signs : op_sign oq ≡ codes "?" = cc in
    absurd (no_question oq signs)
forms_same x z r s sure h k e = absurd (cc)

-- an expression by its form
pub by_form : (P : CExpr → Type 0) → ((z : CExpr-F CExpr) → P (roll-CExpr z)) → (e : CExpr) → P e
by_form P f = ind-CExpr P (λ x y e. let Q : CExpr-F CExpr → Type 0 = λ z. P (roll-CExpr z) in subst Q e (f (map-CExpr _ CExpr (λ e. e.0) y)))

rolled_sure : (x : CExpr-F CExpr) → SureParts x → SureExpr (roll-CExpr x)
rolled_sure x sure = by_form (λ b. (r s : List Token) → ExprFits (roll-CExpr x) → ExprFits b → expr_toks (roll-CExpr x) ++ r ≡ expr_toks b ++ s → Alike (roll-CExpr x) b r s)
    (λ z r s h k e. forms_same x z r s sure (sym (misfits_by_form x) ∙ h) (sym (misfits_by_form z) ∙ k) (sym (spelled x r) ∙ e ∙ spelled z s))

parts_sure : (y : CExpr-F ((e : CExpr) × SureExpr e)) → SureParts (map-CExpr _ CExpr (λ e. e.0) y)
parts_sure (CExpr-F.Num n) = tt
parts_sure (CExpr-F.Of v) = tt
parts_sure (CExpr-F.Bin op a b) = (a.1, b.1)
parts_sure (CExpr-F.Choose c a b) = (c.1, a.1, b.1)

-- each expression is determined
pub expr_same : (e : CExpr) → SureExpr e
expr_same = ind-CExpr SureExpr (λ x y e. let Q : CExpr-F CExpr → Type 0 = λ z. SureExpr (roll-CExpr z) in subst Q e (rolled_sure (map-CExpr _ CExpr (λ e. e.0) y) (parts_sure y)))
