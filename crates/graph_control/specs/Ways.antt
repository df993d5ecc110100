-- Where the steps of a graph's nodes lead, as places among its nodes and tables.
use Rattle.std.specs.Prelude.{◌≡◌, ℕ, Bool, true, false, List, map}
use Rattle.std.specs.List.{AllZip}
use Rattle.std.specs.Ordering.{nat_cmp}
use Rattle.rtl_core.specs.declared.machine.Machine.{Machine}
use Rattle.rtl_core.specs.declared.point.Point.{Point}
use Rattle.rtl_core.specs.declared.point.Slot.{Slot}
use Rattle.rtl_core.specs.declared.point.Slot.TheVariants.{Seq, To, Dyn, CallTo}
use Rattle.rtl_core.specs.contracts.point.PointOrd.TheImpl as point_order
use Rattle.points.specs.declared.block.Block.{Block}
use Rattle.points.specs.declared.block.Course.{Course}
use Rattle.points.specs.declared.block.Course.TheVariants.{On, Arrives, Couples}
use Rattle.points.specs.declared.graph.Graph.{Graph}
use Rattle.points.specs.declared.graph.Node.{Node}
use Rattle.points.specs.Courses.{point, course}
use Rattle.points.specs.Graphs.{points_of}
use Rattle.graph_control.specs.declared.ways.Way.{Way}
use Rattle.graph_control.specs.declared.ways.Ways.{Ways}
use Rattle.graph_control.specs.declared.lookup.Lookup.{Lookup}
use Rattle.graph_control.specs.Finding.{IsPlace}
use Rattle.graph_control.specs.Charts.{Chart}

-- the addresses of computed plain jumps, of procedures and of pads
abbrev pub jumps_in : Graph → List ℕ
jumps_in g = map (λ t. t.at) g.tables

abbrev pub entries_in : Graph → List ℕ
entries_in g = map (λ p. p.entry) g.procs

abbrev pub returns_in : Graph → List ℕ
returns_in g = map (λ p. p.at) g.pads

-- the place of a point among the nodes
abbrev pub IsNodePlace : Graph → Point → ℕ → Type 0
IsNodePlace g p k = IsPlace point_order.cmp-value.it (points_of g.nodes) p k

-- the place that is kept for an arrival: of the node where it leads whatever the machine holds, or of the table of a computed jump
abbrev pub IsArrivalPlace : Graph → Slot → ℕ → Type 0
IsArrivalPlace g (To t) k = IsNodePlace g (point t Seq) k
IsArrivalPlace g (CallTo t back) k = IsNodePlace g (point t Seq) k
IsArrivalPlace g (Dyn a) k = IsPlace nat_cmp (jumps_in g) a k
IsArrivalPlace g slot k = Unit {0}

-- the same for a course
abbrev pub IsCoursePlace : Graph → Course → ℕ → Type 0
IsCoursePlace g (On p) k = IsNodePlace g p k
IsCoursePlace g (Arrives slot) k = IsArrivalPlace g slot k
IsCoursePlace g Couples k = Unit {0}

-- a course with its place
pub record IsWay (g : Graph) (c : Course) (w : Way) : Type 0 where
  pub course : w.course ≡ c
  pub place : IsCoursePlace g c w.place

-- the way of a step, by whether it jumps and whether it annuls
abbrev pub way_of : Ways → (jumps annuls : Bool) → Way
way_of w false false = w.stays
way_of w false true = w.annuls
way_of w true false = w.jumps
way_of w true true = w.both

-- the four ways of the instruction at a point
abbrev pub AreWaysOf : Machine → Graph → Point → Block → Ways → Type 0
AreWaysOf m g p (Block.Inst inst kind) w = (jumps annuls : Bool) → IsWay g (course m p inst.next kind jumps annuls) (way_of w jumps annuls)
AreWaysOf m g p block w = Unit {0}

abbrev pub AreWaysAt : Machine → Graph → Node → Ways → Type 0
AreWaysAt m g n w = AreWaysOf m g n.point n.block w

-- the ways of nodes, in their order
abbrev pub AreWays : Machine → Graph → List Node → List Ways → Type 0
AreWays m g nodes ways = AllZip (AreWaysAt m g) nodes ways

-- what is looked up in a graph
pub record IsLookup (c : Chart) (l : Lookup) : Type 0 where
  pub points : l.points.items ≡ points_of c.graph.nodes
  pub entries : l.entries.items ≡ entries_in c.graph
  pub returns : l.returns.items ≡ returns_in c.graph
  pub ways : AreWays c.machine c.graph c.graph.nodes l.ways.items
