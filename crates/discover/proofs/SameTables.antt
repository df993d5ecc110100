-- Tables matter only where computed plain jumps stand.
use Rattle.std.proofs.Common.{◌≡◌, ℕ, List, sym, ◌∙◌, subst, map}
use Rattle.std.specs.List.{Contains}
use Rattle.std.proofs.lemmas.List.Elements.{All-weaker, All-contains, All-contains_itself}
use Rattle.rtl_core.specs.declared.point.Point.{Point}
use Rattle.points.specs.declared.graph.Graph.{Graph}
use Rattle.points.specs.declared.graph.JumpTable.{JumpTable}
use Rattle.points.specs.declared.graph.Proc.{Proc}
use Rattle.points.specs.Bodies.{Code, LeadsTo, goes, jumps, back, past, Body, first, next, Procedure, root, called, IsReached}
use Rattle.points.specs.Exactly.{IsExactly}
use Rattle.points.specs.Graphs.{IsGraph, IsProcedureOf, IsPlaceOf, HasTable, HasPad, points_of}
use Rattle.worklist.proofs.Members.{into_mapped}
use Rattle.discover.specs.Places.{InBody, IsTooLarge}
use Rattle.discover.specs.GraphLaws.{AgreeOnJumps, with_tables, AreAlike}
use Rattle.points.specs.ControlLaws.{IsControl}
use Rattle.discover.proofs.LookedUp.{jump_of}

-- what holds exactly what has P holds exactly what has Q, where these are the same
exactly_same : {T : Type 0} (P Q : T → Type 0) → ((x : T) → P x → Q x) → ((x : T) → Q x → P x) → (xs : List T) → IsExactly P xs → IsExactly Q xs
exactly_same P Q f g xs h = record { sound = All-weaker P Q f xs h.sound; whole = λ x q. h.whole x (g x q) }

-- ---- from one program to the other

module _ (code : Code) (table : ℕ → List ℕ) (control : IsControl code) (agree : AgreeOnJumps code table) where
  abbrev other : Code
  other = with_tables code table

  leads : (e : ℕ) (p q : Point) → Body code e p → LeadsTo code p q → LeadsTo other p q
  leads e p q b (goes c) = goes c
  leads e p q b (jumps {a = a} {t = t} c m) = jumps c (subst (λ l. Contains l t) (agree.each a ((jump_of code control e p a b c).1)) m)
  leads e p q b (back c) = back c
  leads e p q b (past c s) = past c s

  pub body : (e : ℕ) (p : Point) → Body code e p → Body other e p
  body e p first = first
  body e q (next {p = p} b l) = next (body e p b) (leads e p q b l)

  module _ (roots : List ℕ) where
    pub procedure : (e : ℕ) → Procedure code roots e → Procedure other roots e
    procedure e (root c) = root c
    procedure t (called {p = p} {q = q} h b e) = called (procedure p h) (body p q b) (record { back = e.back; calls = e.calls })

    pub reached : (p : Point) → IsReached code roots p → IsReached other roots p
    reached p r = record { entry = r.entry; procedure = procedure r.entry r.procedure; body = body r.entry p r.body }

    pub place : (e : ℕ) (ps : List Point) (k : ℕ) → IsPlaceOf code e ps k → IsPlaceOf other e ps k
    place e ps k i = record { point = i.point; within = i.within; is = i.is; body = body e i.point i.body }

    pub has_table : (a : ℕ) → HasTable code roots a → HasTable other roots a
    has_table a h = record { reached = reached _ h.reached; is = h.is }

    pub has_pad : (r : ℕ) → HasPad code roots r → HasPad other roots r
    has_pad r h = record { point = h.point; reached = reached h.point h.reached; calls = h.calls; second = h.second; is = h.is }

    pub larger : (limit : ℕ) → IsTooLarge code roots limit → IsTooLarge other roots limit
    larger limit m = record { some = m.some; distinct = m.distinct; all = All-weaker (InBody code roots) (InBody other roots) (λ p b. record { procedure = procedure p.entry b.procedure; body = body p.entry p.point b.body }) m.some m.all; more = m.more }

-- ---- and back

module _ (code : Code) (table : ℕ → List ℕ) (control : IsControl code) (agree : AgreeOnJumps code table) where
  abbrev new : Code
  new = with_tables code table

  pub control_stays : IsControl new
  control_stays = record { looked_up = control.looked_up; delayed = control.delayed }

  pub agree_back : AgreeOnJumps new code.table
  agree_back = record { each = λ a c. sym (agree.each a c) }

  module _ (roots : List ℕ) (g : Graph) (is : IsGraph code roots g) where
    abbrev ps : List Point
    ps = points_of g.nodes

    whole_proc : (p : Proc) → IsProcedureOf code ps p → IsProcedureOf new ps p
    whole_proc p h = record {
      rises = h.rises;
      exactly = exactly_same (IsPlaceOf code p.entry ps) (IsPlaceOf new p.entry ps) (place code table control agree roots p.entry ps) (place new code.table control_stays agree_back roots p.entry ps) p.body h.exactly;
    }

    targets_there : (t : JumpTable) → Contains g.tables t → t.targets ≡ table t.at
    targets_there t c =
        let jump = All-contains (HasTable code roots) (map (λ (t : JumpTable). t.at) g.tables) t.at is.tables.sound (into_mapped (λ (t : JumpTable). t.at) g.tables t c) in
        All-contains (λ (t : JumpTable). t.targets ≡ code.table t.at) g.tables t is.targets c ∙ agree.each t.at jump.is

    pub graph : IsGraph new roots g
    graph = record {
      nodes_rise = is.nodes_rise;
      nodes = exactly_same (IsReached code roots) (IsReached new roots) (reached code table control agree roots) (reached new code.table control_stays agree_back roots) (points_of g.nodes) is.nodes;
      blocks = is.blocks;
      procs_rise = is.procs_rise;
      procs = exactly_same (Procedure code roots) (Procedure new roots) (procedure code table control agree roots) (procedure new code.table control_stays agree_back roots) (map (λ (p : Proc). p.entry) g.procs) is.procs;
      bodies = All-weaker (IsProcedureOf code ps) (IsProcedureOf new ps) whole_proc g.procs is.bodies;
      tables_rise = is.tables_rise;
      tables = exactly_same (HasTable code roots) (HasTable new roots) (has_table code table control agree roots) (has_table new code.table control_stays agree_back roots) (map (λ (t : JumpTable). t.at) g.tables) is.tables;
      targets = All-weaker (Contains g.tables) (λ (t : JumpTable). t.targets ≡ table t.at) targets_there g.tables (All-contains_itself g.tables);
      pads_rise = is.pads_rise;
      pads = exactly_same (HasPad code roots) (HasPad new roots) (has_pad code table control agree roots) (has_pad new code.table control_stays agree_back roots) (map (λ p. p.at) g.pads) is.pads;
      seconds = is.seconds;
    }

  pub are_alike : (roots : List ℕ) → AreAlike code new roots
  are_alike roots = record {
    bodies = λ e p. (body code table control agree e p, body new code.table control_stays agree_back e p);
    procedures = λ e. (procedure code table control agree roots e, procedure new code.table control_stays agree_back roots e);
    graphs = λ g is. graph roots g is;
    too_large = λ limit. (larger code table control agree roots limit, larger new code.table control_stays agree_back roots limit);
  }
