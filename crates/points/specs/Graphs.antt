-- When a graph is that of a program.
use Rattle.std.specs.Prelude.{◌≡◌, ℕ, ◌<◌, true, List, map, length, Some, slice_index_or}
use Rattle.std.specs.List.{All}
use Rattle.std.specs.List.Sorted.{IsStrictlySortedBy}
use Rattle.std.specs.Ordering.{nat_cmp}
use Rattle.rtl_core.specs.declared.point.Point.{Point}
use Rattle.rtl_core.specs.declared.point.Slot.TheVariants.{Seq}
use Rattle.rtl_core.specs.contracts.point.PointOrd.TheImpl as point_order
use Rattle.points.specs.declared.graph.Graph.{Graph}
use Rattle.points.specs.declared.graph.Node.{Node}
use Rattle.points.specs.declared.graph.Proc.{Proc}
use Rattle.points.specs.Courses.{point}
use Rattle.points.specs.Bodies.{Code, arrivals, CallsBack, Body, Procedure, IsReached}
use Rattle.points.specs.Exactly.{IsExactly}
use Rattle.points.specs.Flows.{is_computed}

-- the points of nodes, in their order
abbrev pub points_of : List Node → List Point
points_of nodes = map (λ n. n.point) nodes

-- a place among points at which a point of this body stands
pub record IsPlaceOf (code : Code) (entry : ℕ) (points : List Point) (k : ℕ) : Type 0 where
  pub point : Point
  pub within : k < length points
  pub is : slice_index_or points k point ≡ point
  pub body : Body code entry point

-- a procedure with exactly the places of its body, ascending
pub record IsProcedureOf (code : Code) (points : List Point) (p : Proc) : Type 0 where
  pub rises : IsStrictlySortedBy nat_cmp p.body
  pub exactly : IsExactly (IsPlaceOf code p.entry points) p.body

-- a computed plain jump that is reached with nothing to come
pub record HasTable (code : Code) (roots : List ℕ) (a : ℕ) : Type 0 where
  pub reached : IsReached code roots (point a Seq)
  pub is : is_computed (code.block_at a) ≡ true

-- a return address of a call that is to come at some reached point, or that a step there can make, and that has a second return point
pub record HasPad (code : Code) (roots : List ℕ) (r : ℕ) : Type 0 where
  pub point : Point
  pub reached : IsReached code roots point
  pub calls : CallsBack (arrivals code point) r
  pub second : ℕ
  pub is : code.second r ≡ Some second

-- the graph of a program: all of it ascending and each once, exactly the points, procedures, bodies, tables and pads
pub record IsGraph (code : Code) (roots : List ℕ) (g : Graph) : Type 0 where
  pub nodes_rise : IsStrictlySortedBy point_order.cmp-value.it (points_of g.nodes)
  pub nodes : IsExactly (IsReached code roots) (points_of g.nodes)
  pub blocks : All (λ n. n.block ≡ code.block_at n.point.pc) g.nodes
  pub procs_rise : IsStrictlySortedBy nat_cmp (map (λ p. p.entry) g.procs)
  pub procs : IsExactly (Procedure code roots) (map (λ p. p.entry) g.procs)
  pub bodies : All (IsProcedureOf code (points_of g.nodes)) g.procs
  pub tables_rise : IsStrictlySortedBy nat_cmp (map (λ t. t.at) g.tables)
  pub tables : IsExactly (HasTable code roots) (map (λ t. t.at) g.tables)
  pub targets : All (λ t. t.targets ≡ code.table t.at) g.tables
  pub pads_rise : IsStrictlySortedBy nat_cmp (map (λ p. p.at) g.pads)
  pub pads : IsExactly (HasPad code roots) (map (λ p. p.at) g.pads)
  pub seconds : All (λ p. code.second p.at ≡ Some p.second) g.pads
