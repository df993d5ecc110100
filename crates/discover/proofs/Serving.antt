-- What follows of a graph.
use Rattle.std.proofs.Common.{◌≡◌, ℕ, ◌<◌, List, length, get_or, sym, ◌∙◌, ap, subst}
use Rattle.std.proofs.lemmas.List.{get_or-map}
use Rattle.std.specs.Prelude.{Some}
use Rattle.std.specs.List.{Contains}
use Rattle.std.proofs.lemmas.List.Elements.{All-contains}
use Rattle.rtl_core.specs.declared.point.Point.{Point}
use Rattle.rtl_core.specs.declared.point.Slot.TheVariants.{Seq}
use Rattle.points.specs.declared.block.Next.TheVariants.{Table, Calls, CallsAny}
use Rattle.points.specs.declared.graph.Graph.{Graph}
use Rattle.points.specs.declared.graph.JumpTable.{JumpTable}
use Rattle.points.specs.declared.graph.Node.{Node}
use Rattle.points.specs.declared.graph.Pad.{Pad}
use Rattle.points.specs.declared.graph.Proc.{Proc}
use Rattle.points.specs.Courses.{point, arrival_next}
use Rattle.points.specs.Bodies.{Code, nexts, arrivals, CallsBack, given, any, Body, first, next, Procedure, root, called, IsReached}
use Rattle.points.specs.Graphs.{IsGraph, IsPlaceOf, IsProcedureOf, HasTable, points_of}
use Rattle.worklist.proofs.Members.{tail_member, from_mapped, into_mapped}
use Rattle.discover.specs.Parts.{entries_of}
use Rattle.discover.specs.GraphLaws.{HasNode, IsNode, HasTableAt, HasPadAt, HasInBody, IsInBody, HasProcAt, HasPointAt, Serves, GoesOn}
use Rattle.points.specs.ControlLaws.{IsControl}
use Rattle.discover.proofs.Lists.{mapped_at}
use Rattle.discover.proofs.LookedUp.{jump_of}

module _ (code : Code) (p : Point) where
  comes_back : (r : ℕ) → CallsBack (nexts code p) r → CallsBack (arrivals code p) r
  comes_back r (given {t} c) = given (tail_member (arrival_next p.slot) (Calls t r) (nexts code p) c)
  comes_back r (any c) = any (tail_member (arrival_next p.slot) (CallsAny r) (nexts code p) c)

module _ (code : Code) (roots : List ℕ) where
  pub goes_on : GoesOn code roots
  goes_on = record {
    at_root = λ e c. record { entry = e; procedure = root c; body = first };
    leads = λ p q f l. record { entry = f.entry; procedure = f.procedure; body = next f.body l };
    comes_back = comes_back code;
    enters = λ p t f c. record { entry = t; procedure = called f.procedure f.body c; body = first };
  }

  module _ (g : Graph) (is : IsGraph code roots g) where
    -- ---- nodes

    node_at : (p : Point) (k : ℕ) → k < length (points_of g.nodes) → get_or (points_of g.nodes) k p ≡ p → HasNode code g k p
    node_at p k lt e =
        let m = mapped_at (λ (n : Node). n.point) g.nodes k p lt e in
        record {
          node = m.0;
          within = m.1;
          is = m.2;
          point = m.3;
          block = All-contains (λ (n : Node). n.block ≡ code.block_at n.point.pc) g.nodes m.0 is.blocks (k, m.1, m.2) ∙ ap (λ (q : Point). code.block_at q.pc) m.3;
        }

    node_of : (p : Point) → IsReached code roots p → IsNode code g p
    node_of p f = let c = is.nodes.whole p f in record { place = c.0; has = node_at p c.0 c.1 c.2 }

    -- ---- bodies

    procedure_at : (p : Proc) → Contains g.procs p → Procedure code roots p.entry
    procedure_at p c = All-contains (Procedure code roots) (entries_of g.procs) p.entry is.procs.sound (into_mapped (λ (q : Proc). q.entry) g.procs p c)

    whole_at : (p : Proc) → Contains g.procs p → IsProcedureOf code (points_of g.nodes) p
    whole_at p c = All-contains (IsProcedureOf code (points_of g.nodes)) g.procs p is.bodies c

    in_body : (p : Proc) (q : Point) → Contains g.procs p → Body code p.entry q → IsInBody code g p q
    in_body p q c b =
        let k = is.nodes.whole q (record { entry = p.entry; procedure = procedure_at p c; body = b }) in
        record {
          place = k.0;
          has = record { proc = c; place = (whole_at p c).exactly.whole k.0 (record { point = q; within = k.1; is = k.2; body = b }); node = node_at q k.0 k.1 k.2 };
        }

    place_of : (p : Proc) (k : ℕ) → Contains g.procs p → Contains p.body k → IsPlaceOf code p.entry (points_of g.nodes) k
    place_of p k c m = All-contains (IsPlaceOf code p.entry (points_of g.nodes)) p.body k (whole_at p c).exactly.sound m

    same_node : (k : ℕ) (q r : Point) → HasNode code g k q → get_or (points_of g.nodes) k r ≡ r → r ≡ q
    same_node k q r n e = sym e ∙ get_or-map (λ (m : Node). m.point) g.nodes k n.node r n.within ∙ ap (λ (m : Node). m.point) n.is ∙ n.point

    body_at : (p : Proc) (k : ℕ) (q : Point) → HasInBody code g p k q → Body code p.entry q
    body_at p k q i =
        let b = place_of p k i.proc i.place in
        subst (Body code p.entry) (same_node k q b.point i.node b.is) b.body

    reached_at : (p : Proc) (k : ℕ) (q : Point) → HasInBody code g p k q → IsReached code roots q
    reached_at p k q i = record { entry = p.entry; procedure = procedure_at p i.proc; body = body_at p k q i }

    point_of_place : (p : Proc) (k : ℕ) → Contains g.procs p → Contains p.body k → HasPointAt code roots g p k
    point_of_place p k c m =
        let b = place_of p k c m in
        record { point = b.point; has = record { proc = c; place = m; node = node_at b.point k b.within b.is }; procedure = procedure_at p c; body = b.body }

    -- ---- procedures

    proc_of : (entry : ℕ) → Procedure code roots entry → HasProcAt code g entry
    proc_of entry h =
        let m = from_mapped (λ (q : Proc). q.entry) g.procs entry (is.procs.whole entry h) in
        record { proc = m.0; is = m.1; entry_is = m.2; first = in_body m.0 (point entry Seq) m.1 (subst (λ x. Body code x (point entry Seq)) (sym m.2) first) }

    -- ---- tables and pads

    has_table : IsControl code → (q : Point) (a : ℕ) → IsReached code roots q → Contains (nexts code q) (Table a) → HasTable code roots a
    has_table k q a f c =
        let j = jump_of code k f.entry q a f.body c in
        record { reached = record { entry = f.entry; procedure = f.procedure; body = j.0 }; is = j.1 }

    table_at : IsControl code → (q : Point) (a : ℕ) → IsReached code roots q → Contains (nexts code q) (Table a) → HasTableAt code g a
    table_at k q a f c =
        let m = from_mapped (λ (t : JumpTable). t.at) g.tables a (is.tables.whole a (has_table k q a f c)) in
        record { table = m.0; is = m.1; at = m.2; targets = All-contains (λ (t : JumpTable). t.targets ≡ code.table t.at) g.tables m.0 is.targets m.1 ∙ ap code.table m.2 }

    pad_at : (q : Point) (r s : ℕ) → IsReached code roots q → CallsBack (arrivals code q) r → code.second r ≡ Some s → HasPadAt g r s
    pad_at q r s f c e =
        let m = from_mapped (λ (p : Pad). p.at) g.pads r (is.pads.whole r (record { point = q; reached = f; calls = c; second = s; is = e })) in
        let h : Some (m.0.second) ≡ Some s = sym (All-contains (λ (p : Pad). code.second p.at ≡ Some p.second) g.pads m.0 is.seconds m.1) ∙ ap code.second m.2 ∙ e in
        record { pad = m.0; is = m.1; at = m.2; second_is = cc }

    pub serves : Serves code roots g
    serves = record {
      node_of = node_of;
      proc_of = proc_of;
      proc_of_root = λ e c. proc_of e (root c);
      proc_of_call = λ p k q t i c. proc_of t (called (procedure_at p i.proc) (body_at p k q i) c);
      same_body = λ p k q r i l. in_body p r i.proc (next (body_at p k q i) l);
      point_of_place = point_of_place;
      table_of = λ control p k q a i c. table_at control q a (reached_at p k q i) c;
      pad_of = λ p k q r s i c e. pad_at q r s (reached_at p k q i) c e;
      table_at = table_at;
      pad_at = pad_at;
    }
