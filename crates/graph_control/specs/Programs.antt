-- The programs whose graph is walked, and what is true of control in their runs.
use Rattle.std.specs.Prelude.{◌≡◌, ◌↔◌, ℕ, IsTrue, List, Option, Some, None, slice_get}
use Rattle.std.specs.List.{All, Contains}
use Rattle.rtl_core.specs.declared.point.Point.{Point}
use Rattle.rtl_core.specs.declared.stop.Stop.{Stop}
use Rattle.points.specs.declared.block.Member.{Member}
use Rattle.points.specs.declared.block.Member.TheVariants.{Call, Tail}
use Rattle.points.specs.declared.block.Next.{Next}
use Rattle.points.specs.Bodies.{Code, code_of, roots_of, nexts, CallsBack, Procedure, IsReached}
use Rattle.points.specs.Bundles.{IsSoundSetting}
use Rattle.points.specs.Control.{Flow, Move}
use Rattle.points.specs.Flows.{IsFlow}
use Rattle.points.specs.Graphs.{IsGraph, points_of}
use Rattle.graph_control.specs.declared.position.Position.{Position}
use Rattle.graph_control.specs.Charts.{Chart, control_of, led}

-- the program that a flow runs
abbrev pub program_of : Flow → Code
program_of f = code_of f.setting f.table

-- the flow of a sound program whose graph, with these roots, is that of the chart
pub record IsFlowOf (c : Chart) (roots : List ℕ) (f : Flow) : Type 0 where
  pub sound : IsSoundSetting f.setting
  pub machine : f.setting.machine ≡ c.machine
  pub conv : f.setting.conv ≡ c.conv
  pub procedures : (p : ℕ) → IsTrue (f.is_procedure p) ↔ Procedure (program_of f) roots p
  pub graph : IsGraph (program_of f) roots c.graph

-- the flow of a sound program with this entry, whose graph is that of the chart
pub record IsProgram (c : Chart) (entry : ℕ) (f : Flow) : Type 0 where
  pub symbols : List ℕ
  pub sound : IsSoundSetting f.setting
  pub machine : f.setting.machine ≡ c.machine
  pub conv : f.setting.conv ≡ c.conv
  pub flow : IsFlow f.setting entry symbols f
  pub graph : IsGraph (program_of f) (roots_of f.setting entry symbols) c.graph

-- there is such a program
pub record HasProgram (c : Chart) (entry : ℕ) : Type 0 where
  pub flow : Flow
  pub is : IsProgram c entry flow

-- control can do this at a point that is reached
pub record Comes (code : Code) (roots : List ℕ) (n : Next) : Type 0 where
  pub point : Point
  pub reached : IsReached code roots point
  pub is : Contains (nexts code point) n

-- a call with this return address can be made at a point that is reached
pub record ComesBack (code : Code) (roots : List ℕ) (back : ℕ) : Type 0 where
  pub point : Point
  pub reached : IsReached code roots point
  pub calls : CallsBack (nexts code point) back

-- a member of the call list came about so
abbrev pub IsOpen : Code → List ℕ → Member → Type 0
IsOpen code roots (Call back) = ComesBack code roots back
IsOpen code roots Tail = Unit {0}

-- control stands at a node of the graph whose point the program reaches, and each open call was made so
pub record IsAt (c : Chart) (f : Flow) (p : Position) : Type 0 where
  pub roots : List ℕ
  pub flow : IsFlowOf c roots f
  pub place : slice_get (points_of c.graph.nodes) p.place ≡ Some p.point
  pub reached : IsReached (program_of f) roots p.point
  pub calls : All (IsOpen (program_of f) roots) p.calls

-- control comes to do this in the run of a program
pub record Steers (c : Chart) (f : Flow) (roots : List ℕ) (p : Position) (n : Next) : Type 0 where
  pub flow : IsFlowOf c roots f
  pub comes : Comes (program_of f) roots n
  pub calls : All (IsOpen (program_of f) roots) p.calls

-- where control goes on its place is that of its point
abbrev pub IsPlaced : Chart → Option Stop → Position → Type 0
IsPlaced c stop p = stop ≡ None → slice_get (points_of c.graph.nodes) p.place ≡ Some p.point

-- control was moved so, and where it goes on its place is that of its point
pub record IsSteered (c : Chart) (move : Move) (stop : Option Stop) (p : Position) : Type 0 where
  pub moved : led stop (control_of p) ≡ move
  pub place : IsPlaced c stop p
