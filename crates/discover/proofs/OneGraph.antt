-- A program has one graph.
use Rattle.std.proofs.Common.{◌≡◌, ℕ, List, sym, ◌∙◌, ap, subst}
use Rattle.std.specs.Prelude.{map, Some}
use Rattle.std.specs.List.{All}
use Rattle.std.specs.List.Sorted.{IsStrictlySortedBy}
use Rattle.std.specs.Ordering.{nat_cmp}
use Rattle.std.specs.Cmp.{nat_cmp_total}
use Rattle.rtl_core.specs.declared.point.Point.{Point}
use Rattle.rtl_core.specs.contracts.point.PointOrd.TheImpl as point_order
use Rattle.points.specs.declared.graph.Graph.{Graph}
use Rattle.points.specs.declared.graph.JumpTable.{JumpTable}
use Rattle.points.specs.declared.graph.Node.{Node}
use Rattle.points.specs.declared.graph.Pad.{Pad}
use Rattle.points.specs.declared.graph.Proc.{Proc}
use Rattle.points.specs.Exactly.{IsExactly}
use Rattle.points.specs.Bodies.{Code, Procedure, IsReached}
use Rattle.points.specs.Graphs.{IsGraph, IsProcedureOf, IsPlaceOf, HasTable, HasPad, points_of}
use Rattle.worklist.specs.Closures.{HaveSameMembers}
use Rattle.worklist.proofs.Alike.{one_ascending, one_by_parts}
use Rattle.discover.proofs.Lists.{have_same}

same_numbers : (P : ℕ → Type 0) (xs ys : List ℕ) → IsStrictlySortedBy nat_cmp xs → IsStrictlySortedBy nat_cmp ys → IsExactly P xs → IsExactly P ys → xs ≡ ys
same_numbers P xs ys sx sy a b = one_ascending nat_cmp nat_cmp_total xs ys sx sy (have_same P xs ys a b)

one_node : (code : Code) (m n : Node) → m.block ≡ code.block_at m.point.pc → n.block ≡ code.block_at n.point.pc → m.point ≡ n.point → m ≡ n
one_node code m n a b e =
    let f : m.block ≡ n.block = a ∙ ap (λ (p : Point). code.block_at p.pc) e ∙ sym b in
    λ i. record { point = e i; block = f i }

one_table : (code : Code) (m n : JumpTable) → m.targets ≡ code.table m.at → n.targets ≡ code.table n.at → m.at ≡ n.at → m ≡ n
one_table code m n a b e =
    let f : m.targets ≡ n.targets = a ∙ ap code.table e ∙ sym b in
    λ i. record { at = e i; targets = f i }

one_pad : (code : Code) (m n : Pad) → code.second m.at ≡ Some m.second → code.second n.at ≡ Some n.second → m.at ≡ n.at → m ≡ n
one_pad code m n a b e =
    let g : Some m.second ≡ Some n.second = sym a ∙ ap code.second e ∙ b in
    let f : m.second ≡ n.second = cc in
    λ i. record { at = e i; second = f i }

one_proc : (code : Code) (ps : List Point) (m n : Proc) → IsProcedureOf code ps m → IsProcedureOf code ps n → m.entry ≡ n.entry → m ≡ n
one_proc code ps m n a b e =
    let f = same_numbers (IsPlaceOf code n.entry ps) m.body n.body a.rises b.rises (subst (λ x. IsExactly (IsPlaceOf code x ps) m.body) e a.exactly) b.exactly in
    λ i. record { entry = e i; body = f i }

pub only_graph : ((xs ys : List Point) → IsStrictlySortedBy point_order.cmp-value.it xs → IsStrictlySortedBy point_order.cmp-value.it ys → HaveSameMembers xs ys → xs ≡ ys) → (code : Code) (roots : List ℕ) (g h : Graph) → IsGraph code roots g → IsGraph code roots h → g ≡ h
only_graph same code roots g h a b =
    let ps = same (points_of g.nodes) (points_of h.nodes) a.nodes_rise b.nodes_rise (have_same (IsReached code roots) (points_of g.nodes) (points_of h.nodes) a.nodes b.nodes) in
    let nodes = one_by_parts (λ n. n.point) (λ (n : Node). n.block ≡ code.block_at n.point.pc) (one_node code) g.nodes h.nodes a.blocks b.blocks ps in
    let es = same_numbers (Procedure code roots) (map (λ p. p.entry) g.procs) (map (λ p. p.entry) h.procs) a.procs_rise b.procs_rise a.procs b.procs in
    let procs = one_by_parts (λ p. p.entry) (IsProcedureOf code (points_of h.nodes)) (one_proc code (points_of h.nodes)) g.procs h.procs (subst (λ l. All (IsProcedureOf code l) g.procs) ps a.bodies) b.bodies es in
    let ats = same_numbers (HasTable code roots) (map (λ t. t.at) g.tables) (map (λ t. t.at) h.tables) a.tables_rise b.tables_rise a.tables b.tables in
    let tables = one_by_parts (λ t. t.at) (λ (t : JumpTable). t.targets ≡ code.table t.at) (one_table code) g.tables h.tables a.targets b.targets ats in
    let rs = same_numbers (HasPad code roots) (map (λ p. p.at) g.pads) (map (λ p. p.at) h.pads) a.pads_rise b.pads_rise a.pads b.pads in
    let pads = one_by_parts (λ p. p.at) (λ (p : Pad). code.second p.at ≡ Some p.second) (one_pad code) g.pads h.pads a.seconds b.seconds rs in
    λ i. record { nodes = nodes i; procs = procs i; tables = tables i; pads = pads i }
