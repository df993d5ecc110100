-- The graph, from its parts.
use Rattle.std.proofs.Common.{◌≡◌, ℕ, List, map, refl, sym, ◌∙◌, ap, subst}
use Rattle.std.specs.Prelude.{filter, Some}
use Rattle.std.specs.List.{All, Contains, flat_map}
use Rattle.std.specs.List.Sorted.{IsStrictlySortedBy}
use Rattle.std.specs.Ordering.{nat_cmp}
use Rattle.std.proofs.lemmas.List.Elements.{All-map, All-contains, All-weaker, All-contains_itself}
use Rattle.std.proofs.lemmas.List.Kept.{IsStrictlySortedBy-filter}
use Rattle.rtl_core.specs.declared.point.Point.{Point}
use Rattle.rtl_core.specs.contracts.point.PointOrd.TheImpl as point_order
use Rattle.points.specs.declared.graph.Graph.{Graph}
use Rattle.points.specs.declared.graph.JumpTable.{JumpTable}
use Rattle.points.specs.declared.graph.Node.{Node}
use Rattle.points.specs.declared.graph.Pad.{Pad}
use Rattle.points.specs.declared.graph.Proc.{Proc}
use Rattle.points.specs.Exactly.{IsExactly}
use Rattle.points.specs.Bodies.{Code, Procedure, IsReached}
use Rattle.points.specs.Graphs.{IsGraph, IsProcedureOf, HasPad, HasTable, points_of}
use Rattle.worklist.proofs.Members.{into_mapped}
use Rattle.discover.specs.declared.place.Place.{Place}
use Rattle.discover.specs.Places.{InBody}
use Rattle.discover.specs.Parts.{node_at, jump_in, backs_at, body_of, entries_of, IsAscendingOf, table_at, IsOutline, AreTablesOf, ArePadsOf}
use Rattle.discover.proofs.Lists.{mapped_back}
use Rattle.discover.proofs.WholeBodies.{exactly_points, exactly_entries, procedure_of}
use Rattle.discover.proofs.WholeJumps.{exactly_tables, exactly_pads, has_second, pad_ats, pad_seconds}

module _ (code : Code) (roots : List ℕ) (keys : List Place) (ps : List Point) (found : IsExactly (InBody code roots) keys) where
  abbrev HasBlock : Node → Type 0
  HasBlock n = n.block ≡ code.block_at n.point.pc

  abbrev HasTargets : JumpTable → Type 0
  HasTargets t = t.targets ≡ code.table t.at

  abbrev HasSecond : Pad → Type 0
  HasSecond p = code.second p.at ≡ Some p.second

  procs_whole : (procs : List Proc) → IsOutline keys ps procs → All (IsProcedureOf code ps) procs
  procs_whole procs o =
      let entries = exactly_entries code roots keys found (entries_of procs) o.entries in
      All-weaker (Contains procs) (IsProcedureOf code ps) (λ (p : Proc) c.
      let e = All-contains (Procedure code roots) (entries_of procs) p.entry entries.sound (into_mapped (λ (q : Proc). q.entry) procs p c) in
      procedure_of code roots keys found ps o.distinct (exactly_points code roots keys found ps o.exactly) p e (All-contains (λ (q : Proc). IsAscendingOf (body_of ps keys q.entry) q.body) procs p o.bodies c)) procs (All-contains_itself procs)

  is_graph : (g : Graph) → IsOutline keys ps g.procs → g.nodes ≡ map (node_at code) ps → AreTablesOf code g.nodes g.tables → ArePadsOf code (flat_map (backs_at code) ps) g.pads → IsGraph code roots g
  is_graph g o nodes t p =
      let js = t.jumps in
      let rs = p.returns in
      let at_points : points_of g.nodes ≡ ps = ap points_of nodes ∙ mapped_back (node_at code) (λ (n : Node). n.point) (λ q. refl) ps in
      let exactly = exactly_points code roots keys found ps o.exactly in
      let ats : map (λ (t : JumpTable). t.at) g.tables ≡ js = ap (map (λ (t : JumpTable). t.at)) t.is ∙ mapped_back (table_at code) (λ (t : JumpTable). t.at) (λ a. refl) js in
      let pad_at : map (λ (p : Pad). p.at) g.pads ≡ filter (has_second code) rs = ap (map (λ (p : Pad). p.at)) p.is ∙ pad_ats code rs in
      record {
        nodes_rise = subst (IsStrictlySortedBy point_order.cmp-value.it) (sym at_points) o.points_rise;
        nodes = subst (IsExactly (IsReached code roots)) (sym at_points) exactly;
        blocks = subst (All HasBlock) (sym nodes) (All-map HasBlock (node_at code) ps (λ k d lt. refl));
        procs_rise = o.entries_rise;
        procs = exactly_entries code roots keys found (entries_of g.procs) o.entries;
        bodies = subst (λ l. All (IsProcedureOf code l) g.procs) (sym at_points) (procs_whole g.procs o);
        tables_rise = subst (IsStrictlySortedBy nat_cmp) (sym ats) t.ascending.rises;
        tables = subst (IsExactly (HasTable code roots)) (sym ats) (exactly_tables code roots ps exactly js (subst (λ l. IsExactly (Contains (flat_map jump_in l)) js) nodes t.ascending.exactly));
        targets = subst (All HasTargets) (sym t.is) (All-map HasTargets (table_at code) js (λ k d lt. refl));
        pads_rise = subst (IsStrictlySortedBy nat_cmp) (sym pad_at) (IsStrictlySortedBy-filter nat_cmp (has_second code) rs p.ascending.rises);
        pads = subst (IsExactly (HasPad code roots)) (sym pad_at) (exactly_pads code roots ps exactly rs p.ascending.exactly);
        seconds = subst (All HasSecond) (sym p.is) (pad_seconds code rs);
      }

  -- the same, where each part was put into a list of its own
  pub assembled : (nodes n : List Node) (procs p : List Proc) (tables t : List JumpTable) (pads d : List Pad) (backs : List ℕ) → n ≡ nodes → p ≡ procs → t ≡ tables → d ≡ pads → IsOutline keys ps procs → nodes ≡ map (node_at code) ps → backs ≡ flat_map (backs_at code) ps → AreTablesOf code nodes tables → ArePadsOf code backs pads → IsGraph code roots (record { nodes = n; procs = p; tables = t; pads = d })
  assembled nodes n procs p tables t pads d backs en ep et ed o is returns ts ds =
      is_graph (record { nodes = n; procs = p; tables = t; pads = d }) (subst (IsOutline keys ps) (sym ep) o) (en ∙ is)
      (subst (λ l. AreTablesOf code l t) (sym en) (subst (AreTablesOf code nodes) (sym et) ts))
      (subst (λ l. ArePadsOf code l d) returns (subst (ArePadsOf code backs) (sym ed) ds))
