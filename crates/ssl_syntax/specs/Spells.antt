-- Which tokens spell an expression.
use Rattle.std.specs.Prelude.{◌≡◌, true, List, Option, Some, None}
use Rattle.text_lex.specs.declared.token.Token.{Token}
use Rattle.ssl_syntax.specs.declared.line.SslExpr.{SslExpr}
use Rattle.ssl_syntax.specs.Expressions.{expr_toks, is_expr}

-- the tokens are the spelling of this expression
pub record Spells (e : SslExpr) (ts : List Token) : Type 0 where
  pub spelled : ts ≡ expr_toks e
  pub proper : is_expr e ≡ true

-- the tokens are the spelling of no expression
pub record SpellsNone (ts : List Token) : Type 0 where
  pub never : (e : SslExpr) → Spells e ts → ⊥

-- the expression that tokens spell, where there is one
abbrev pub IsExprOf : Option SslExpr → List Token → Type 0
IsExprOf (Some e) ts = Spells e ts
IsExprOf None ts = SpellsNone ts

-- no two expressions have one spelling
abbrev pub HasOneSpelling : Type 0
HasOneSpelling = (a b : SslExpr) (ts : List Token) → Spells a ts → Spells b ts → a ≡ b
