-- What a search has seen.
use Rattle.std.specs.Prelude.{◌≡◌, ℕ, List, nat_eq}
use Rattle.std.specs.Option.{IfSome}
use Rattle.std.specs.Map.{lookup}
use Rattle.rtl_core.specs.declared.point.Point.{Point}
use Rattle.rtl_core.specs.contracts.point.PointPartialEq.TheImpl as point_equality
use Rattle.points.specs.Bodies.{Code, nexts}
use Rattle.discover.specs.declared.search.Look.{Look}

-- what stands at a point, and all that control can do there
pub record IsLook (code : Code) (p : Point) (look : Look) : Type 0 where
  pub block : look.block ≡ code.block_at p.pc
  pub nexts : look.nexts ≡ nexts code p

-- what is remembered of each point is so
pub record AreLooks (code : Code) (entries : List (Point × Look)) : Type 0 where
  pub each : (p : Point) → IfSome (lookup (point_equality.eq-value.it p) entries) (IsLook code p)

-- each table that is remembered is that of its jump
pub record AreTables (code : Code) (entries : List (ℕ × List ℕ)) : Type 0 where
  pub each : (a : ℕ) → IfSome (lookup (nat_eq a) entries) (λ targets. targets ≡ code.table a)
