-- The nodes of each form of an expression.
use Rattle.std.proofs.Common.{◌≡◌, ℕ, ◌+◌, ◌/◌, List, [], ◌∷◌, map, Option, Some, None, refl, sym, ap, ◌∙◌}
use Rattle.std.specs.Prelude.{unwrap_or, option_map}
use Rattle.ssl_syntax.specs.declared.line.SslExpr.{SslExpr}
use Rattle.ssl_syntax.specs.declared.line.SslExpr.TheVariants as E
use Rattle.ssl_syntax.proofs.FoldLaws.{fold-Number, fold-Named, fold-At, fold-AtOp, fold-Load, fold-Not, fold-Neg, fold-Bin, fold-Bits, fold-Zext, fold-Sext, fold-If, fold-Call, fold-Pc, fold-Next}
use Rattle.rtl_core.specs.declared.expr.Un.TheVariants.{Not, Neg}
use Rattle.ssl_rules.specs.declared.formula.Leaf.TheVariants as leaf
use Rattle.ssl_rules.specs.declared.formula.Formula.TheVariants as F
use Rattle.ssl_rules.specs.declared.tables.Function.{Function}
use Rattle.ssl_rules.specs.Operators.{operator}
use Rattle.ssl_rules.specs.Names.{Scope, lone_named, part_named, function_named}
use Rattle.ssl_rules.specs.Formulas.{nothing, lone_formula, part_formula, chosen_part, call_formula, node_expanded, expanded, nodes}
use Rattle.ssl_nodes.specs.Sums.{few, nodes_with}
use Rattle.ssl_nodes.proofs.FormulaLaws.{nodes-Param, nodes-Leaf, nodes-Load, nodes-Un, nodes-Bin, nodes-Slice, nodes-Zext, nodes-Sext, nodes-If}
use Rattle.ssl_nodes.proofs.PutLemmas.{nodes-put_in, few-with}
use Rattle.ssl_nodes.proofs.FewLemmas.{few-1, few-2, few-3}

at_op-one : (o : Option (ℕ × ℕ)) → nodes (unwrap_or (option_map (λ p. F.Leaf (leaf.FileAt p.0 p.1)) o) nothing) ≡ 1
at_op-one None = nodes-Leaf (leaf.Const 1 0)
at_op-one (Some p) = nodes-Leaf (leaf.FileAt p.0 p.1)

pub count-Number : (s : Scope) (v w : ℕ) → nodes (expanded s (E.Number v w)) ≡ 1
unfolding expanded
count-Number s v w = ap nodes (fold-Number (node_expanded s) v w) ∙ nodes-Leaf (leaf.Const w v)

pub count-Named : (s : Scope) (x : List ℕ) → nodes (expanded s (E.Named x)) ≡ nodes (unwrap_or (option_map lone_formula (lone_named s x)) nothing)
unfolding expanded
count-Named s x = ap nodes (fold-Named (node_expanded s) x)

pub count-At : (s : Scope) (x : List ℕ) (i : ℕ) → nodes (expanded s (E.At x i)) ≡ nodes (unwrap_or (option_map (part_formula s.tables) (part_named s.tables x i)) nothing)
unfolding expanded
count-At s x i = ap nodes (fold-At (node_expanded s) x i)

pub count-AtOp : (s : Scope) (x op : List ℕ) → nodes (expanded s (E.AtOp x op)) ≡ 1
unfolding expanded
count-AtOp s x op = ap nodes (fold-AtOp (node_expanded s) x op) ∙ at_op-one (chosen_part s x op)

pub count-Load : (s : Scope) (n : ℕ) (a : SslExpr) → nodes (expanded s (E.Load n a)) ≡ 1 + nodes (expanded s a)
unfolding expanded
count-Load s n a = ap nodes (fold-Load (node_expanded s) n a) ∙ nodes-Load (n / 8) (expanded s a)

pub count-Not : (s : Scope) (a : SslExpr) → nodes (expanded s (E.Not a)) ≡ 1 + nodes (expanded s a)
unfolding expanded
count-Not s a = ap nodes (fold-Not (node_expanded s) a) ∙ nodes-Un Not (expanded s a)

pub count-Neg : (s : Scope) (a : SslExpr) → nodes (expanded s (E.Neg a)) ≡ 1 + nodes (expanded s a)
unfolding expanded
count-Neg s a = ap nodes (fold-Neg (node_expanded s) a) ∙ nodes-Un Neg (expanded s a)

pub count-Bin : (s : Scope) (op : ℕ) (a b : SslExpr) → nodes (expanded s (E.Bin op a b)) ≡ 1 + nodes (expanded s a) + nodes (expanded s b)
unfolding expanded
count-Bin s op a b = ap nodes (fold-Bin (node_expanded s) op a b) ∙ nodes-Bin (operator op) (expanded s a) (expanded s b)

pub count-Bits : (s : Scope) (a : SslExpr) (lo hi : ℕ) → nodes (expanded s (E.Bits a lo hi)) ≡ 1 + nodes (expanded s a)
unfolding expanded
count-Bits s a lo hi = ap nodes (fold-Bits (node_expanded s) a lo hi) ∙ nodes-Slice (expanded s a) lo hi

pub count-Zext : (s : Scope) (w : ℕ) (a : SslExpr) → nodes (expanded s (E.Zext w a)) ≡ 1 + nodes (expanded s a)
unfolding expanded
count-Zext s w a = ap nodes (fold-Zext (node_expanded s) w a) ∙ nodes-Zext w (expanded s a)

pub count-Sext : (s : Scope) (w : ℕ) (a : SslExpr) → nodes (expanded s (E.Sext w a)) ≡ 1 + nodes (expanded s a)
unfolding expanded
count-Sext s w a = ap nodes (fold-Sext (node_expanded s) w a) ∙ nodes-Sext w (expanded s a)

pub count-If : (s : Scope) (c a b : SslExpr) → nodes (expanded s (E.If c a b)) ≡ 1 + nodes (expanded s c) + nodes (expanded s a) + nodes (expanded s b)
unfolding expanded
count-If s c a b = ap nodes (fold-If (node_expanded s) c a b) ∙ nodes-If (expanded s c) (expanded s a) (expanded s b)

pub count-Call : (s : Scope) (x : List ℕ) (es : List SslExpr) → nodes (expanded s (E.Call x es)) ≡ nodes (call_formula (function_named s.tables x) (map (expanded s) es))
unfolding expanded
count-Call s x es = ap nodes (fold-Call (node_expanded s) x es)

pub count-Pc : (s : Scope) → nodes (expanded s E.Pc) ≡ 1
unfolding expanded
count-Pc s = ap nodes (fold-Pc (node_expanded s)) ∙ nodes-Leaf leaf.Pc

pub count-Next : (s : Scope) → nodes (expanded s E.Next) ≡ 1
unfolding expanded
count-Next s = ap nodes (fold-Next (node_expanded s)) ∙ nodes-Leaf leaf.Next

map-few : (s : Scope) (es : List SslExpr) → map few (map nodes (map (expanded s) es)) ≡ map (λ e. few (nodes (expanded s e))) es
map-few s [] = refl
map-few s (e ∷ es) = ap (λ l. few (nodes (expanded s e)) ∷ l) (map-few s es)

-- a call of a function that is known
pub count-known_call : (s : Scope) (x : List ℕ) (es : List SslExpr) (f : Function) → function_named s.tables x ≡ Some f
    → few (nodes_with (map (λ e. few (nodes (expanded s e))) es) f.body) ≡ few (nodes (expanded s (E.Call x es)))
count-known_call s x es f known =
    ap (λ ns. few (nodes_with ns f.body)) (sym (map-few s es)) ∙ few-with (map nodes (map (expanded s) es)) f.body
    ∙ ap few (sym (nodes-put_in (map (expanded s) es) f.body))
    ∙ ap (λ o. few (nodes (call_formula o (map (expanded s) es)))) (sym known) ∙ ap few (sym (count-Call s x es))

-- a call of no function
pub count-unknown_call : (s : Scope) (x : List ℕ) (es : List SslExpr) → function_named s.tables x ≡ None → 1 ≡ few (nodes (expanded s (E.Call x es)))
count-unknown_call s x es unknown =
    ap few (sym (nodes-Leaf (leaf.Const 1 0))) ∙ ap (λ o. few (nodes (call_formula o (map (expanded s) es)))) (sym unknown) ∙ ap few (sym (count-Call s x es))

pub ruleset count_laws = (count-Number, count-Named, count-At, count-AtOp, count-Load, count-Not, count-Neg, count-Bin, count-Bits, count-Zext, count-Sext, count-If, count-Pc, count-Next, few-1, few-2, few-3)

pub ruleset leaf_laws = (nodes-Leaf, nodes-Param)
