-- How each form of a statement is spelled, how deep it is, and how many of its numbers do not fit.
use Rattle.std.proofs.Common.{◌≡◌, ℕ, List, [], ◌∷◌, ◌++◌, sym, ap, ◌∙◌, subst, append_assoc}
use Rattle.std.specs.Prelude.{flat_map}
use Rattle.std.proofs.lemmas.List.Folds.{flat_map-map}
use Rattle.c_lang.specs.declared.tree.CExpr.{CExpr}
use Rattle.c_lang.specs.declared.tree.Stmt.{Stmt, ind-Stmt, roll-Stmt, map-Stmt, fold-roll-Stmt}
use Rattle.c_lang.specs.declared.tree.Stmt.TheVariants as S
use Rattle.c_lang.specs.declared.tree.Stmt.TheOpen.{Stmt-F}
use Rattle.c_lang.specs.Spellable.{ifs, node_ifs, deepest, node_deepest, stmt_misfits, node_stmt_misfits}
use Rattle.c_text.specs.Tokens.{Token, name, plain, mark, word}
use Rattle.c_text.specs.Words.{function_word}
use Rattle.c_text.specs.Expressions.{expr_toks, listed, var_token}
use Rattle.c_text.specs.Statements.{stmt_toks, node_stmt, condition_toks}

-- a statement from its topmost layer
abbrev pub from_layer : Stmt-F Stmt → Stmt
from_layer (Stmt-F.Set v e) = S.Set v e
from_layer (Stmt-F.Load v n e) = S.Load v n e
from_layer (Stmt-F.Store n a e) = S.Store n a e
from_layer (Stmt-F.TakeW v e) = S.TakeW v e
from_layer (Stmt-F.PutW a e) = S.PutW a e
from_layer (Stmt-F.Serve n x y z) = S.Serve n x y z
from_layer (Stmt-F.Call f es) = S.Call f es
from_layer (Stmt-F.If e inner) = S.If e inner
from_layer (Stmt-F.Stop n e) = S.Stop n e

rolled_layer : (x : Stmt-F Stmt) → from_layer x ≡ roll-Stmt x
rolled_layer (Stmt-F.Set v e) = sym (S.rolls-Set v e)
rolled_layer (Stmt-F.Load v n e) = sym (S.rolls-Load v n e)
rolled_layer (Stmt-F.Store n a e) = sym (S.rolls-Store n a e)
rolled_layer (Stmt-F.TakeW v e) = sym (S.rolls-TakeW v e)
rolled_layer (Stmt-F.PutW a e) = sym (S.rolls-PutW a e)
rolled_layer (Stmt-F.Serve n x y z) = sym (S.rolls-Serve n x y z)
rolled_layer (Stmt-F.Call f es) = sym (S.rolls-Call f es)
rolled_layer (Stmt-F.If e inner) = sym (S.rolls-If e inner)
rolled_layer (Stmt-F.Stop n e) = sym (S.rolls-Stop n e)

-- what is spelled of a layer, in front of other tokens
abbrev pub spell : Stmt-F Stmt → List Token → List Token
spell (Stmt-F.Set v e) remain = var_token v ∷ mark "=" ∷ (expr_toks e ++ mark ";" ∷ remain)
spell (Stmt-F.Load v size e) remain = var_token v ∷ mark "=" ∷ word "uq_load" ∷ mark "(" ∷ plain size ∷ mark "," ∷ (expr_toks e ++ mark ")" ∷ mark ";" ∷ remain)
spell (Stmt-F.Store size a e) remain = word "uq_store" ∷ mark "(" ∷ plain size ∷ mark "," ∷ (expr_toks a ++ mark "," ∷ (expr_toks e ++ mark ")" ∷ mark ";" ∷ remain))
spell (Stmt-F.TakeW v e) remain = var_token v ∷ mark "=" ∷ word "uq_w" ∷ mark "[" ∷ (expr_toks e ++ mark "]" ∷ mark ";" ∷ remain)
spell (Stmt-F.PutW a e) remain = word "uq_w" ∷ mark "[" ∷ (expr_toks a ++ mark "]" ∷ mark "=" ∷ (expr_toks e ++ mark ";" ∷ remain))
spell (Stmt-F.Serve n x y z) remain =
    word "uq_serve" ∷ mark "(" ∷ (expr_toks n ++ mark "," ∷ (expr_toks x ++ mark "," ∷ (expr_toks y ++ mark "," ∷ (expr_toks z ++ mark ")" ∷ mark ";" ∷ remain))))
spell (Stmt-F.Call f es) remain = name (function_word f) ∷ mark "(" ∷ (listed expr_toks es ++ mark ")" ∷ mark ";" ∷ remain)
spell (Stmt-F.If e inner) remain = word "if" ∷ mark "(" ∷ (expr_toks e ++ mark ")" ∷ mark "{" ∷ (flat_map stmt_toks inner ++ mark "}" ∷ remain))
spell (Stmt-F.Stop n e) remain = word "uq_stop" ∷ mark "(" ∷ plain n ∷ mark "," ∷ (expr_toks e ++ mark ")" ∷ mark ";" ∷ remain)

layer_toks : (x : Stmt-F Stmt) → stmt_toks (roll-Stmt x) ≡ node_stmt (map-Stmt Stmt (List Token) stmt_toks x)
unfolding stmt_toks
layer_toks x = fold-roll-Stmt (List Token) node_stmt x

if_regrouped : (e : CExpr) (xs : List Stmt) (remain : List Token) → (condition_toks e ++ (flat_map stmt_toks xs ++ mark "}" ∷ [])) ++ remain ≡ spell (Stmt-F.If e xs) remain
if_regrouped e xs remain = simp append_assoc

rearranged : (x : Stmt-F Stmt) (remain : List Token) → node_stmt (map-Stmt Stmt (List Token) stmt_toks x) ++ remain ≡ spell x remain
rearranged (Stmt-F.Set v e) remain = simp append_assoc
rearranged (Stmt-F.Load v size e) remain = simp append_assoc
rearranged (Stmt-F.Store size a e) remain = simp append_assoc
rearranged (Stmt-F.TakeW v e) remain = simp append_assoc
rearranged (Stmt-F.PutW a e) remain = simp append_assoc
rearranged (Stmt-F.Serve n x y z) remain = simp append_assoc
rearranged (Stmt-F.Call f es) remain = simp append_assoc
rearranged (Stmt-F.If e xs) remain = ap (λ given. (condition_toks e ++ (given ++ mark "}" ∷ [])) ++ remain) (flat_map-map (λ given. given) stmt_toks xs) ∙ if_regrouped e xs remain
rearranged (Stmt-F.Stop n e) remain = simp append_assoc

pub spelled : (x : Stmt-F Stmt) (remain : List Token) → stmt_toks (from_layer x) ++ remain ≡ spell x remain
spelled x remain = ap (λ e. stmt_toks e ++ remain) (rolled_layer x) ∙ ap (λ given. given ++ remain) (layer_toks x) ∙ rearranged x remain

abbrev pub layer_ifs : Stmt-F Stmt → ℕ
layer_ifs x = node_ifs (map-Stmt Stmt ℕ ifs x)

pub nested : (x : Stmt-F Stmt) → ifs (from_layer x) ≡ layer_ifs x
unfolding ifs
nested x = ap ifs (rolled_layer x) ∙ fold-roll-Stmt ℕ node_ifs x

abbrev pub layer_deepest : Stmt-F Stmt → ℕ
layer_deepest x = node_deepest (map-Stmt Stmt ℕ deepest x)

pub deep : (x : Stmt-F Stmt) → deepest (from_layer x) ≡ layer_deepest x
unfolding deepest
deep x = ap deepest (rolled_layer x) ∙ fold-roll-Stmt ℕ node_deepest x

abbrev pub layer_misfits : Stmt-F Stmt → ℕ
layer_misfits x = node_stmt_misfits (map-Stmt Stmt ℕ stmt_misfits x)

pub misfits : (x : Stmt-F Stmt) → stmt_misfits (from_layer x) ≡ layer_misfits x
unfolding stmt_misfits
misfits x = ap stmt_misfits (rolled_layer x) ∙ fold-roll-Stmt ℕ node_stmt_misfits x

-- a property that each topmost layer gives holds of each statement
pub by_layer : (P : Stmt → Type 0) → ((z : Stmt-F Stmt) → P (from_layer z)) → (e : Stmt) → P e
by_layer P f = ind-Stmt P (λ x y e.
    let Q : Stmt-F Stmt → Type 0 = λ z. P (roll-Stmt z) in
    subst Q e (let z = map-Stmt _ Stmt (λ e. e.0) y in subst P (rolled_layer z) (f z)))
