-- What follows of a graph of a program: all that a run and a translation use of it.
use Rattle.std.specs.Prelude.{true, ◌↔◌, ◌≡◌, ℕ, ◌<◌, List, length, Some, slice_index_or}
use Rattle.std.specs.List.{Contains}
use Rattle.rtl_core.specs.declared.point.Point.{Point}
use Rattle.rtl_core.specs.declared.point.Slot.TheVariants.{Seq}
use Rattle.points.specs.declared.block.Next.TheVariants.{Table}
use Rattle.points.specs.declared.graph.Graph.{Graph}
use Rattle.points.specs.declared.graph.JumpTable.{JumpTable}
use Rattle.points.specs.declared.graph.Node.{Node}
use Rattle.points.specs.declared.graph.Pad.{Pad}
use Rattle.points.specs.declared.graph.Proc.{Proc}
use Rattle.points.specs.Courses.{point}
use Rattle.points.specs.Bodies.{Code, nexts, arrivals, Enters, CallsBack, LeadsTo, Body, Procedure, IsReached}
use Rattle.points.specs.Flows.{is_computed}
use Rattle.points.specs.Graphs.{IsGraph}
use Rattle.points.specs.ControlLaws.{IsControl}
use Rattle.discover.specs.Places.{IsTooLarge}

-- ---- what a graph has

-- at this place a node for the point, with what stands at its address
pub record HasNode (code : Code) (g : Graph) (k : ℕ) (p : Point) : Type 0 where
  pub node : Node
  pub within : k < length g.nodes
  pub is : slice_index_or g.nodes k node ≡ node
  pub point : node.point ≡ p
  pub block : node.block ≡ code.block_at p.pc

-- some node for the point
pub record IsNode (code : Code) (g : Graph) (p : Point) : Type 0 where
  pub place : ℕ
  pub has : HasNode code g place p

-- the table of the jump at an address
pub record HasTableAt (code : Code) (g : Graph) (a : ℕ) : Type 0 where
  pub table : JumpTable
  pub is : Contains g.tables table
  pub at : table.at ≡ a
  pub targets : table.targets ≡ code.table a

-- a second return point of a return address
pub record HasPadAt (g : Graph) (back second : ℕ) : Type 0 where
  pub pad : Pad
  pub is : Contains g.pads pad
  pub at : pad.at ≡ back
  pub second_is : pad.second ≡ second

-- at this place of the body of a procedure, this point
pub record HasInBody (code : Code) (g : Graph) (p : Proc) (k : ℕ) (q : Point) : Type 0 where
  pub proc : Contains g.procs p
  pub place : Contains p.body k
  pub node : HasNode code g k q

-- the point at some place of the body of a procedure
pub record IsInBody (code : Code) (g : Graph) (p : Proc) (q : Point) : Type 0 where
  pub place : ℕ
  pub has : HasInBody code g p place q

-- a procedure with this entry, and a place for its first point
pub record HasProcAt (code : Code) (g : Graph) (entry : ℕ) : Type 0 where
  pub proc : Proc
  pub is : Contains g.procs proc
  pub entry_is : proc.entry ≡ entry
  pub first : IsInBody code g proc (point entry Seq)

-- the point at a place of the body of a procedure of the program
pub record HasPointAt (code : Code) (roots : List ℕ) (g : Graph) (p : Proc) (k : ℕ) : Type 0 where
  pub point : Point
  pub has : HasInBody code g p k point
  pub procedure : Procedure code roots p.entry
  pub body : Body code p.entry point

-- ---- which tables matter

-- a program with other tables
abbrev pub with_tables : Code → (ℕ → List ℕ) → Code
with_tables code table = record code { table = table }

-- the tables are those of the program where a computed plain jump stands
pub record AgreeOnJumps (code : Code) (table : ℕ → List ℕ) : Type 0 where
  pub each : (a : ℕ) → is_computed (code.block_at a) ≡ true → code.table a ≡ table a

-- two programs have the same bodies, procedures and graph
pub record AreAlike (code other : Code) (roots : List ℕ) : Type 0 where
  pub bodies : (entry : ℕ) (p : Point) → Body code entry p ↔ Body other entry p
  pub procedures : (entry : ℕ) → Procedure code roots entry ↔ Procedure other roots entry
  pub graphs : (g : Graph) → IsGraph code roots g → IsGraph other roots g
  pub too_large : (limit : ℕ) → IsTooLarge code roots limit ↔ IsTooLarge other roots limit

-- ---- the laws

-- what is used of a graph: by points, as a step goes, and by places, as a translation goes
pub record Serves (code : Code) (roots : List ℕ) (g : Graph) : Type 0 where
  -- each reached point has a node, with its block
  pub node_of : (p : Point) → IsReached code roots p → IsNode code g p
  -- each procedure is there: those at the roots, and those that calls enter
  pub proc_of : (entry : ℕ) → Procedure code roots entry → HasProcAt code g entry
  pub proc_of_root : (entry : ℕ) → Contains roots entry → HasProcAt code g entry
  pub proc_of_call : (p : Proc) (k : ℕ) (q : Point) (t : ℕ) → HasInBody code g p k q → Enters code q t → HasProcAt code g t
  -- a successor of a point of a body is in the same body
  pub same_body : (p : Proc) (k : ℕ) (q r : Point) → HasInBody code g p k q → LeadsTo code q r → IsInBody code g p r
  -- each place of a body is a point that its procedure reaches
  pub point_of_place : (p : Proc) (k : ℕ) → Contains g.procs p → Contains p.body k → HasPointAt code roots g p k
  -- a table that is looked up is there, and so is a second return point
  pub table_of : IsControl code → (p : Proc) (k : ℕ) (q : Point) (a : ℕ) → HasInBody code g p k q → Contains (nexts code q) (Table a) → HasTableAt code g a
  pub pad_of : (p : Proc) (k : ℕ) (q : Point) (back second : ℕ) → HasInBody code g p k q → CallsBack (arrivals code q) back → code.second back ≡ Some second → HasPadAt g back second
  -- the same at any reached point
  pub table_at : IsControl code → (q : Point) (a : ℕ) → IsReached code roots q → Contains (nexts code q) (Table a) → HasTableAt code g a
  pub pad_at : (q : Point) (back second : ℕ) → IsReached code roots q → CallsBack (arrivals code q) back → code.second back ≡ Some second → HasPadAt g back second

-- how reached points go on: their successors are reached, a call that a step makes counts among its arrivals, and what one enters is reached
pub record GoesOn (code : Code) (roots : List ℕ) : Type 0 where
  pub at_root : (entry : ℕ) → Contains roots entry → IsReached code roots (point entry Seq)
  pub leads : (p q : Point) → IsReached code roots p → LeadsTo code p q → IsReached code roots q
  pub comes_back : (p : Point) (back : ℕ) → CallsBack (nexts code p) back → CallsBack (arrivals code p) back
  pub enters : (p : Point) (t : ℕ) → IsReached code roots p → Enters code p t → IsReached code roots (point t Seq)

-- a program has at most one graph
abbrev pub GraphIsOne : Type 0
GraphIsOne = (code : Code) (roots : List ℕ) (g h : Graph) → IsGraph code roots g → IsGraph code roots h → g ≡ h

-- each graph of a program serves so
abbrev pub GraphServes : Type 0
GraphServes = (code : Code) (roots : List ℕ) (g : Graph) → IsGraph code roots g → Serves code roots g

-- tables matter only where computed plain jumps stand
abbrev pub OnlyJumpsHaveTables : Type 0
OnlyJumpsHaveTables = (code : Code) (table : ℕ → List ℕ) (roots : List ℕ) → IsControl code → AgreeOnJumps code table → AreAlike code (with_tables code table) roots

-- what control reaches goes on so
abbrev pub ReachedGoesOn : Type 0
ReachedGoesOn = (code : Code) (roots : List ℕ) → GoesOn code roots
