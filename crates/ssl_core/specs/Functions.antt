-- Functions as lines spell them.
use Rattle.std.specs.Prelude.{List, map, unwrap_or}
use Rattle.ssl_syntax.specs.declared.line.Param.{Param}
use Rattle.ssl_syntax.specs.declared.line.SslExpr.{SslExpr}
use Rattle.ssl_rules.specs.declared.tables.Function.{Function}
use Rattle.ssl_rules.specs.Names.{Scope}
use Rattle.ssl_rules.specs.Widths.{measured}
use Rattle.ssl_rules.specs.Formulas.{expanded}

-- a function with these parameters and this body
abbrev pub function_in : Scope → List Param → SslExpr → Function
function_in s ps e = record { params = map (λ p. p.width) ps; width = unwrap_or (measured s e).width 0; body = expanded s e }
