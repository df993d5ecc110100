-- Calls with as many arguments as their functions have parameters.
use Rattle.std.specs.Prelude.{ℕ, ◌==◌, ◌&&◌, Bool, true, false, length, Option, Some, None}
use Rattle.std.specs.List.{list_all}
use Rattle.ssl_syntax.specs.declared.line.SslExpr.{SslExpr, fold-SslExpr}
use Rattle.ssl_syntax.specs.declared.line.SslExpr.TheOpen.{SslExpr-F}
use Rattle.ssl_syntax.specs.declared.line.SslPlace.{SslPlace}
use Rattle.ssl_syntax.specs.declared.line.SslPlace.TheVariants as place
use Rattle.ssl_syntax.specs.declared.line.SslAct.{SslAct}
use Rattle.ssl_syntax.specs.declared.line.SslAct.TheVariants as act
use Rattle.ssl_syntax.specs.declared.line.SslTransfer.{SslTransfer}
use Rattle.ssl_rules.specs.declared.tables.Function.{Function}
use Rattle.ssl_rules.specs.Names.{Scope, function_named}

-- a function takes so many arguments
abbrev pub takes : Option Function → ℕ → Bool
takes None n = false
takes (Some f) n = length f.params == n

abbrev pub node_counted : Scope → SslExpr-F Bool → Bool
node_counted s (SslExpr-F.Load bits a) = a
node_counted s (SslExpr-F.Not a) = a
node_counted s (SslExpr-F.Neg a) = a
node_counted s (SslExpr-F.Bin op a b) = a && b
node_counted s (SslExpr-F.Bits a lo hi) = a
node_counted s (SslExpr-F.Zext width a) = a
node_counted s (SslExpr-F.Sext width a) = a
node_counted s (SslExpr-F.If c a b) = c && (a && b)
node_counted s (SslExpr-F.Call name args) = takes (function_named s.tables name) (length args) && list_all (λ a. a) args
node_counted s _ = true

-- every call of an expression has the right number of arguments
abbrev pub is_counted_expr : Scope → SslExpr → Bool
is_counted_expr s = fold-SslExpr Bool (node_counted s)

abbrev pub is_counted_place : Scope → SslPlace → Bool
is_counted_place s (place.Load bits address) = is_counted_expr s address
is_counted_place s _ = true

abbrev pub is_counted_act : Scope → SslAct → Bool
is_counted_act s (act.Assign width to value) = is_counted_place s to && is_counted_expr s value
is_counted_act s (act.Jump target) = is_counted_expr s target
is_counted_act s (act.Trap number) = is_counted_expr s number
is_counted_act s _ = true

abbrev pub is_counted_guard : Scope → Option SslExpr → Bool
is_counted_guard s None = true
is_counted_guard s (Some guard) = is_counted_expr s guard

abbrev pub is_counted_transfer : Scope → SslTransfer → Bool
is_counted_transfer s t = is_counted_guard s t.guard && is_counted_act s t.act
