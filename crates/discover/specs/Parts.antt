-- The parts of a graph.
use Rattle.std.specs.Prelude.{◌≡◌, ℕ, Bool, true, false, ◌&&◌, if◌then◌else◌, List, [], ◌∷◌, ◌++◌, map, filter, nat_eq, slice_set, slice_index_or, Option, Some, None}
use Rattle.std.specs.List.{All, Contains, IsDistinct, flat_map, position_or_len, list_any}
use Rattle.std.specs.List.Sorted.{IsStrictlySortedBy}
use Rattle.std.specs.Ordering.{nat_cmp}
use Rattle.rtl_core.specs.declared.point.Point.{Point}
use Rattle.rtl_core.specs.declared.point.Slot.{Slot}
use Rattle.rtl_core.specs.declared.point.Slot.TheVariants.{Seq}
use Rattle.rtl_core.specs.contracts.point.PointPartialEq.TheImpl as point_equality
use Rattle.rtl_core.specs.contracts.point.PointOrd.TheImpl as point_order
use Rattle.points.specs.declared.block.Next.{Next}
use Rattle.points.specs.declared.block.Next.TheVariants.{Goes, Table, Calls, CallsAny, Returns, Couples}
use Rattle.points.specs.declared.graph.JumpTable.{JumpTable}
use Rattle.points.specs.declared.graph.Node.{Node}
use Rattle.points.specs.declared.graph.Pad.{Pad}
use Rattle.points.specs.declared.graph.Proc.{Proc}
use Rattle.points.specs.Bodies.{Code, arrivals}
use Rattle.points.specs.Exactly.{IsExactly}
use Rattle.points.specs.Flows.{is_computed}
use Rattle.discover.specs.declared.place.Place.{Place}

abbrev pub same_point : Point → Point → Bool
same_point = point_equality.eq-value.it

-- ---- lists

-- the different members of a list, ascending
pub record IsAscendingOf (xs ys : List ℕ) : Type 0 where
  pub rises : IsStrictlySortedBy nat_cmp ys
  pub exactly : IsExactly (Contains xs) ys

abbrev pub entries_of : List Proc → List ℕ
entries_of procs = map (λ p. p.entry) procs

-- ---- nodes

abbrev pub node_at : Code → Point → Node
node_at code p = record { point = p; block = code.block_at p.pc }

-- the return address of a call
abbrev pub backs_in : Next → List ℕ
backs_in (Goes p) = []
backs_in (Table a) = []
backs_in (Calls t back) = back ∷ []
backs_in (CallsAny back) = back ∷ []
backs_in Returns = []
backs_in Couples = []

-- the return addresses of the calls that are to come at a point, or that a step there can make
abbrev pub backs_at : Code → Point → List ℕ
backs_at code p = flat_map backs_in (arrivals code p)

-- ---- bodies

-- where a point stands among points
abbrev pub index_in : List Point → Point → ℕ
index_in points p = position_or_len (same_point p) points

-- the places of the points of a body, in the order in which they were found
abbrev pub body_of : List Point → List Place → ℕ → List ℕ
body_of points places entry = map (λ p. index_in points p.point) (filter (λ p. nat_eq p.entry entry) places)

abbrev pub bodies_of : List Point → List Place → List ℕ → List (List ℕ)
bodies_of points places entries = map (body_of points places) entries

-- a place's procedure and its point are among those
pub record IsListed (entries : List ℕ) (points : List Point) (p : Place) : Type 0 where
  pub entry : list_any (nat_eq p.entry) entries ≡ true
  pub point : list_any (same_point p.point) points ≡ true

-- the bodies with one more place, at the end of its body
abbrev pub with_place : List Point → List ℕ → Place → List (List ℕ) → List (List ℕ)
with_place points entries p bodies =
    let k = position_or_len (nat_eq p.entry) entries in
    slice_set bodies k (slice_index_or bodies k [] ++ index_in points p.point ∷ [])

-- the points and the procedures of places
pub record IsOutline (places : List Place) (points : List Point) (procs : List Proc) : Type 0 where
  pub points_rise : IsStrictlySortedBy point_order.cmp-value.it points
  pub exactly : IsExactly (Contains (map (λ p. p.point) places)) points
  pub distinct : IsDistinct same_point points
  pub entries_rise : IsStrictlySortedBy nat_cmp (entries_of procs)
  pub entries : IsExactly (Contains (map (λ p. p.entry) places)) (entries_of procs)
  pub bodies : All (λ p. IsAscendingOf (body_of points places p.entry) p.body) procs

-- ---- tables and pads

abbrev pub is_seq : Slot → Bool
is_seq Seq = true
is_seq _ = false

-- the computed plain jump of a node at which nothing is to come
abbrev pub jump_in : Node → List ℕ
jump_in n = if is_seq n.point.slot && is_computed n.block then n.point.pc ∷ [] else []

abbrev pub table_at : Code → ℕ → JumpTable
table_at code a = record { at = a; targets = code.table a }

-- the tables of the jumps of nodes
pub record AreTablesOf (code : Code) (nodes : List Node) (tables : List JumpTable) : Type 0 where
  pub jumps : List ℕ
  pub ascending : IsAscendingOf (flat_map jump_in nodes) jumps
  pub is : tables ≡ map (table_at code) jumps

abbrev pub pad : ℕ → ℕ → Pad
pad back second = record { at = back; second = second }

abbrev pub pad_with : ℕ → Option ℕ → List Pad
pad_with back None = []
pad_with back (Some second) = pad back second ∷ []

-- the pad of a return address, where it has a second return point
abbrev pub pads_in : Code → ℕ → List Pad
pads_in code back = pad_with back (code.second back)

-- the pads of return addresses
pub record ArePadsOf (code : Code) (backs : List ℕ) (pads : List Pad) : Type 0 where
  pub returns : List ℕ
  pub ascending : IsAscendingOf backs returns
  pub is : pads ≡ flat_map (pads_in code) returns
