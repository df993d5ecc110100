-- A call, expanded, and what the parts of an expression in range are.
use Rattle.std.proofs.Common.{◌≡◌, ℕ, List, map, Some, None, sym, ap, ◌∙◌}
use Rattle.std.proofs.lemmas.Bool.{and_parts}
use Rattle.ssl_syntax.specs.declared.line.SslExpr.{SslExpr}
use Rattle.ssl_syntax.specs.declared.line.SslExpr.TheVariants as E
use Rattle.ssl_syntax.proofs.FoldLaws.{fold-Call}
use Rattle.ssl_rules.specs.declared.tables.Function.{Function}
use Rattle.ssl_rules.specs.Names.{Scope, function_named}
use Rattle.ssl_rules.specs.Formulas.{nothing, put_in, call_formula, node_expanded, expanded}
use Rattle.ssl_templates.proofs.RangedLaws.{ranged-Number, ranged-Load, ranged-Not, ranged-Neg, ranged-Bin, ranged-Bits, ranged-Zext, ranged-Sext, ranged-If}

-- a call of a function that is known
pub expanded-known_call : (s : Scope) (x : List ℕ) (es : List SslExpr) (f : Function) → function_named s.tables x ≡ Some f
    → put_in (map (expanded s) es) f.body ≡ expanded s (E.Call x es)
unfolding expanded
expanded-known_call s x es f known = ap (λ o. call_formula o (map (expanded s) es)) (sym known) ∙ sym (fold-Call (node_expanded s) x es)

-- a call of no function
pub expanded-unknown_call : (s : Scope) (x : List ℕ) (es : List SslExpr) → function_named s.tables x ≡ None → nothing ≡ expanded s (E.Call x es)
unfolding expanded
expanded-unknown_call s x es unknown = ap (λ o. call_formula o (map (expanded s) es)) (sym unknown) ∙ sym (fold-Call (node_expanded s) x es)

pub ruleset expand_laws = (ranged-Number, ranged-Load, ranged-Not, ranged-Neg, ranged-Bin, ranged-Bits, ranged-Zext, ranged-Sext, ranged-If, and_parts)
