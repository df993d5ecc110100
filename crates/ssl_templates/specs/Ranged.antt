-- Expressions whose numbers are in range.
use Rattle.std.specs.Prelude.{Bool, is_some}
use Rattle.ssl_syntax.specs.declared.line.SslExpr.{SslExpr}
use Rattle.ssl_rules.specs.Names.{Scope}
use Rattle.ssl_rules.specs.Widths.{measured}

-- an expression whose numbers are in range has a width
unfoldable pub is_ranged : Scope → SslExpr → Bool
is_ranged s e = is_some (measured s e).width
