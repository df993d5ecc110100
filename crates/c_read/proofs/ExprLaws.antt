-- How each form of an expression is spelled, how deep it is, and how many of its numbers do not fit.
use Rattle.std.proofs.Common.{◌≡◌, ℕ, List, ◌∷◌, ◌++◌, refl, sym, ap, ◌∙◌, subst, append_assoc}
use Rattle.c_lang.specs.declared.tree.CExpr.{CExpr, ind-CExpr, roll-CExpr, map-CExpr, fold-roll-CExpr}
use Rattle.c_lang.specs.declared.tree.CExpr.TheVariants as E
use Rattle.c_lang.specs.declared.tree.CExpr.TheOpen.{CExpr-F}
use Rattle.c_lang.specs.Spellable.{nesting, node_nesting, expr_misfits, node_misfits}
use Rattle.c_text.specs.Tokens.{Token, long, sign, mark}
use Rattle.c_text.specs.Expressions.{expr_toks, node_toks, op_sign, var_token}

-- a tree from its topmost layer
abbrev pub from_layer : CExpr-F CExpr → CExpr
from_layer (CExpr-F.Num n) = E.Num n
from_layer (CExpr-F.Of v) = E.Of v
from_layer (CExpr-F.Bin op a b) = E.Bin op a b
from_layer (CExpr-F.Choose c a b) = E.Choose c a b

rolled_layer : (x : CExpr-F CExpr) → from_layer x ≡ roll-CExpr x
rolled_layer (CExpr-F.Num n) = sym (E.rolls-Num n)
rolled_layer (CExpr-F.Of v) = sym (E.rolls-Of v)
rolled_layer (CExpr-F.Bin op a b) = sym (E.rolls-Bin op a b)
rolled_layer (CExpr-F.Choose c a b) = sym (E.rolls-Choose c a b)

-- what is spelled of a layer, in front of other tokens
abbrev pub spell : CExpr-F CExpr → List Token → List Token
spell (CExpr-F.Num n) remain = long n ∷ remain
spell (CExpr-F.Of v) remain = var_token v ∷ remain
spell (CExpr-F.Bin op a b) remain = mark "(" ∷ (expr_toks a ++ sign (op_sign op) ∷ (expr_toks b ++ mark ")" ∷ remain))
spell (CExpr-F.Choose c a b) remain = mark "(" ∷ (expr_toks c ++ mark "?" ∷ (expr_toks a ++ mark ":" ∷ (expr_toks b ++ mark ")" ∷ remain)))

layer_toks : (x : CExpr-F CExpr) → expr_toks (roll-CExpr x) ≡ node_toks (map-CExpr CExpr (List Token) expr_toks x)
unfolding expr_toks
layer_toks x = fold-roll-CExpr (List Token) node_toks x

rearranged : (x : CExpr-F CExpr) (remain : List Token) → node_toks (map-CExpr CExpr (List Token) expr_toks x) ++ remain ≡ spell x remain
rearranged (CExpr-F.Num n) remain = refl
rearranged (CExpr-F.Of v) remain = refl
rearranged (CExpr-F.Bin op a b) remain = simp append_assoc
rearranged (CExpr-F.Choose c a b) remain = simp append_assoc

pub spelled : (x : CExpr-F CExpr) (remain : List Token) → expr_toks (from_layer x) ++ remain ≡ spell x remain
spelled x remain = ap (λ e. expr_toks e ++ remain) (rolled_layer x) ∙ ap (λ given. given ++ remain) (layer_toks x) ∙ rearranged x remain

abbrev pub layer_depth : CExpr-F CExpr → ℕ
layer_depth x = node_nesting (map-CExpr CExpr ℕ nesting x)

pub depth : (x : CExpr-F CExpr) → nesting (from_layer x) ≡ layer_depth x
unfolding nesting
depth x = ap nesting (rolled_layer x) ∙ fold-roll-CExpr ℕ node_nesting x

abbrev pub layer_misfits : CExpr-F CExpr → ℕ
layer_misfits x = node_misfits (map-CExpr CExpr ℕ expr_misfits x)

pub misfits : (x : CExpr-F CExpr) → expr_misfits (from_layer x) ≡ layer_misfits x
unfolding expr_misfits
misfits x = ap expr_misfits (rolled_layer x) ∙ fold-roll-CExpr ℕ node_misfits x

-- a property that each topmost layer gives holds of each tree
pub by_layer : (P : CExpr → Type 0) → ((z : CExpr-F CExpr) → P (from_layer z)) → (e : CExpr) → P e
by_layer P f = ind-CExpr P (λ x y e.
    let Q : CExpr-F CExpr → Type 0 = λ z. P (roll-CExpr z) in
    subst Q e (let z = map-CExpr _ CExpr (λ e. e.0) y in subst P (rolled_layer z) (f z)))
