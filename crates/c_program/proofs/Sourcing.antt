-- The parts of a graph are enough for the blocks of its program.
use Rattle.std.proofs.Common.{◌≡◌, ℕ, Bool, true, false, if◌then◌else◌, List, [], map, Option, Some, None, refl, sym, ap, ◌∙◌, subst}
use Rattle.std.specs.List.{Contains}
use Rattle.rtl_core.specs.declared.inst.GroundInst.{GroundInst}
use Rattle.rtl_core.specs.declared.machine.Machine.{Machine}
use Rattle.rtl_core.specs.declared.point.Point.{Point}
use Rattle.rtl_core.specs.declared.point.Slot.{Slot}
use Rattle.rtl_core.specs.declared.point.Slot.TheVariants.{Seq, To, Dyn, CallTo, CallDyn, Ret}
use Rattle.points.specs.declared.block.Block.{Block}
use Rattle.points.specs.declared.block.JumpKind.{JumpKind}
use Rattle.points.specs.declared.block.Mode.{Mode}
use Rattle.points.specs.declared.block.Mode.TheVariants.{Never, Maybe, Always}
use Rattle.points.specs.declared.block.Next.TheVariants as Next
use Rattle.points.specs.declared.graph.Graph.{Graph}
use Rattle.points.specs.declared.graph.Summary.{Summary}
use Rattle.points.specs.Bodies.{Code, code_of, nexts, arrivals, CallsBack, Enters, LeadsTo, Body, Procedure}
use Rattle.points.specs.Courses.{point, pending, halts, possible, jump_mode, annul_mode, arrival_next, course_next, course_by, nexts_of, once, after}
use Rattle.points.specs.Flows.{is_computed}
use Rattle.points.specs.Graphs.{HasTable}
use Rattle.points.specs.Kinds.{block_at}
use Rattle.points.specs.Machine.{Setting}
use Rattle.points.proofs.CodeControl.{code_is_control}
use Rattle.c_control.specs.Blocks.{annul_for, can_arrive}
use Rattle.c_control.specs.Plans.{Plan}
use Rattle.c_control.proofs.Coming.{head-member, once-stays, tail-member, way-member}
use Rattle.c_program.specs.declared.sources.Sources.{Sources}
use Rattle.c_program.specs.Planning.{AreSummariesOf, IsDescribed, entries, graph_plan}
use Rattle.c_program.specs.Ready.{IsKnownInst}
use Rattle.c_program.specs.Shown.{IsKnown, back_of, entries_of}

-- a jump that can arrive is done in some run, with an annul
can-jump : (j a : Mode) → can_arrive j a ≡ true → (possible j true ≡ true) × (possible a true ≡ true)
can-jump Never a e = let no : ⊥ = cc in absurd no
can-jump Maybe Never e = let no : ⊥ = cc in absurd no
can-jump Maybe Maybe e = (refl, refl)
can-jump Maybe Always e = (refl, refl)
can-jump Always Never e = let no : ⊥ = cc in absurd no
can-jump Always Maybe e = (refl, refl)
can-jump Always Always e = (refl, refl)

-- the names of the data, which hold the parts of a graph with summaries
pub record AreParts (setting : Setting) (g : Graph) (sums : List Summary) (on : Sources) : Type 0 where
  pub machine : on.machine.now ≡ setting.machine
  pub conv : on.conv.now ≡ setting.conv
  pub tables : on.tables.now ≡ g.tables
  pub pads : on.pads.now ≡ g.pads
  pub sums_are : on.sums.now ≡ sums

-- the summaries are those of the procedures, in their order
pub entries-same : (setting : Setting) (table : ℕ → List ℕ) (roots : List ℕ) (g : Graph) (sums : List Summary) → AreSummariesOf setting table roots g sums → entries_of sums ≡ entries g.procs
entries-same setting table roots g sums (AreSummariesOf.least s) = s.entries
entries-same setting table roots g sums (AreSummariesOf.whole s) = s.entries

module _ (setting : Setting) (table : ℕ → List ℕ) (roots : List ℕ) (g : Graph) (sums : List Summary) (others : List ℕ) (d : IsDescribed setting table roots g) (are : AreSummariesOf setting table roots g sums) (on : Sources)
    (parts : AreParts setting g sums on) where
  abbrev plan : Plan
  plan = graph_plan setting table g.procs sums others

  abbrev code : Code
  code = code_of setting table

  -- only a computed plain jump leads into its slot
  jump-reached : (p : ℕ) (b : Point) (a : ℕ) → Procedure code roots p → Body code p b → b.slot ≡ Dyn a → HasTable code roots a
  jump-reached p b a proc Body.first e = let no : ⊥ = cc in absurd no
  jump-reached p b a proc (Body.next {p = q} body l) e = by b l e
    where
      by : (b : Point) → LeadsTo code q b → b.slot ≡ Dyn a → HasTable code roots a
      by b (LeadsTo.goes i) e =
          let at = (code_is_control setting table).delayed q b a i e in
          record { reached = record { entry = p; procedure = proc; body = subst (Body code p) at.0 body }; is = at.1 }
      by b (LeadsTo.jumps i j) e = let no : ⊥ = cc in absurd no
      by b (LeadsTo.back calls) e = let no : ⊥ = cc in absurd no
      by b (LeadsTo.past calls f) e = let no : ⊥ = cc in absurd no

  -- what an arrival asks for that can come at a point
  arrival-known : (p : ℕ) (b : Point) (slot : Slot) → Procedure code roots p → Body code p b → Contains (arrivals code b) (arrival_next slot) → ((a : ℕ) → slot ≡ Dyn a → HasTable code roots a) → IsKnown plan on slot
  arrival-known p b slot proc body arrives tabled = record {
    table = λ a e. subst (λ ts. Contains (map (λ t. t.at) ts) a) (sym parts.tables) (d.graph.tables.whole a (tabled a e));
    callee = λ t back e.
        let enters : Enters code b t = record { back = back; calls = subst (λ s. Contains (arrivals code b) (arrival_next s)) e arrives } in
        subst (λ ss. Contains (entries_of ss) t) (sym parts.sums_are) (subst (λ es. Contains es t) (sym (entries-same setting table roots g sums are)) (d.graph.procs.whole t (Procedure.called proc body enters)));
    pads = λ back e. record {
      pad = λ s f. subst (λ ps. Contains (map (λ q. q.at) ps) back) (sym parts.pads)
          (d.graph.pads.whole back (record { point = b; reached = record { entry = p; procedure = proc; body = body }; calls = calls slot back e arrives; second = s; is = f }));
    };
  }
    where
      calls : (slot : Slot) (back : ℕ) → back_of slot ≡ Some back → Contains (arrivals code b) (arrival_next slot) → CallsBack (arrivals code b) back
      calls (CallTo t r) back e i = let same : r ≡ back = cc in CallsBack.given (subst (λ k. Contains (arrivals code b) (Next.Calls t k)) same i)
      calls (CallDyn r) back e i = let same : r ≡ back = cc in CallsBack.any (subst (λ k. Contains (arrivals code b) (Next.CallsAny k)) same i)
      calls Seq back e i = let no : ⊥ = cc in absurd no
      calls (To t) back e i = let no : ⊥ = cc in absurd no
      calls (Dyn a) back e i = let no : ⊥ = cc in absurd no
      calls Ret back e i = let no : ⊥ = cc in absurd no

  module _ (p : ℕ) (b : Point) (proc : Procedure code roots p) (body : Body code p b) where
    slot-known : IsKnown plan on b.slot
    slot-known = arrival-known p b b.slot proc body (head-member (arrival_next b.slot) (nexts code b)) (λ a e. jump-reached p b a proc body e)

    -- with nothing to come, what can come at once is among all that can come
    pending-next : (inst : GroundInst) (kind : JumpKind) → block_at setting b.pc ≡ Block.Inst inst kind → halts inst.transfers ≡ false → b.slot ≡ Seq → can_arrive (jump_mode inst.transfers) (annul_for setting.machine.delay (annul_mode inst.transfers)) ≡ true
        → Contains (nexts code b) (arrival_next (pending b.pc kind))
    pending-next inst kind e going fresh can =
        subst (λ k. Contains (after setting.machine b k) (arrival_next (pending b.pc kind))) (sym e)
        (subst (λ h. Contains (if h then [] else once (nexts_of setting.machine b inst kind j a)) (arrival_next (pending b.pc kind))) (sym going)
        (once-stays (arrival_next (pending b.pc kind)) (nexts_of setting.machine b inst kind j a) (by setting.machine.delay refl a refl can)))
      where
        j : Mode
        j = jump_mode inst.transfers

        a : Mode
        a = annul_mode inst.transfers

        way : (x : Bool) → possible j true ≡ true → possible a x ≡ true → course_next (course_by setting.machine b.pc b.slot inst.next kind true x) ≡ arrival_next (pending b.pc kind)
            → Contains (nexts_of setting.machine b inst kind j a) (arrival_next (pending b.pc kind))
        way x ej ea same = subst (Contains (nexts_of setting.machine b inst kind j a)) same (way-member setting.machine b inst kind j a true x ej ea)

        by : (delay : Option ℕ) → setting.machine.delay ≡ delay → (k : Mode) → a ≡ k → can_arrive j (annul_for delay k) ≡ true → Contains (nexts_of setting.machine b inst kind j a) (arrival_next (pending b.pc kind))
        by (Some delay) f k q can = let c = can-jump j k can in way true c.0 (ap (λ n. possible n true) q ∙ c.1) (rw (fresh, f) refl)
        by None f Never q can = way false (can-jump j Always can).0 (ap (λ n. possible n false) q) (rw (fresh, f) refl)
        by None f Maybe q can = way true (can-jump j Always can).0 (ap (λ n. possible n true) q) (rw (fresh, f) refl)
        by None f Always q can = way true (can-jump j Always can).0 (ap (λ n. possible n true) q) (rw (fresh, f) refl)

    -- a jump that can come at once stands here
    pending-table : (inst : GroundInst) (kind : JumpKind) (a : ℕ) → block_at setting b.pc ≡ Block.Inst inst kind → b.slot ≡ Seq → pending b.pc kind ≡ Dyn a → HasTable code roots a
    pending-table inst JumpKind.Dyn a e fresh is =
        let at : b.pc ≡ a = cc in
        let here : b ≡ point a Seq = ap (λ s. point b.pc s) fresh ∙ ap (λ k. point k Seq) at in
        record { reached = record { entry = p; procedure = proc; body = subst (Body code p) here body }; is = ap (λ k. is_computed (block_at setting k)) (sym at) ∙ ap is_computed e }
    pending-table inst JumpKind.Never a e fresh is = let no : ⊥ = cc in absurd no
    pending-table inst (JumpKind.To t) a e fresh is = let no : ⊥ = cc in absurd no
    pending-table inst (JumpKind.CallTo t back) a e fresh is = let no : ⊥ = cc in absurd no
    pending-table inst (JumpKind.CallDyn back) a e fresh is = let no : ⊥ = cc in absurd no
    pending-table inst JumpKind.Ret a e fresh is = let no : ⊥ = cc in absurd no

    pub inst-known : (inst : GroundInst) (kind : JumpKind) → block_at setting b.pc ≡ Block.Inst inst kind → IsKnownInst plan on b inst kind
    inst-known inst kind e = record {
      step = λ going. record {
        slot = slot-known;
        pending = λ fresh can.
            let can' = subst (λ (m : Machine). can_arrive (jump_mode inst.transfers) (annul_for m.delay (annul_mode inst.transfers)) ≡ true) parts.machine can in
            arrival-known p b (pending b.pc kind) proc body (tail-member (arrival_next b.slot) (arrival_next (pending b.pc kind)) (nexts code b) (pending-next inst kind e going fresh can'))
            (λ a is. pending-table inst kind a e fresh is);
      };
    }
