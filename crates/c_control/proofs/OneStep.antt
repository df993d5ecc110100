-- One instruction of the machine, in the C text.
use Rattle.std.proofs.Common.{◌≡◌, ℕ, ◌+◌, ◌*◌, ◌^◌, ◌<◌, ◌≤◌, Bool, true, false, List, [], ◌++◌, length, Some, refl, sym, ap, ◌∙◌, subst, arith}
use Rattle.std.specs.Prelude.{slice_get, is_some, if◌then◌else◌}
use Rattle.std.proofs.Math.Nat.{mod-eq_of_lt}
use Rattle.lockstep.specs.Runs.{Goes, Ends, Stops}
use Rattle.lockstep.specs.Meets.{Matches}
use Rattle.rtl_core.specs.declared.inst.GroundInst.{GroundInst}
use Rattle.rtl_core.specs.declared.machine.Machine.{Machine}
use Rattle.rtl_core.specs.declared.point.Slot.{Slot}
use Rattle.rtl_core.specs.declared.point.Slot.TheVariants.{Seq, To, Dyn, CallTo, CallDyn, Ret}
use Rattle.rtl_core.specs.declared.stop.Stop.{Stop}
use Rattle.rtl_core.specs.Arithmetic.{flag}
use Rattle.rtl_core.specs.Contents.{Contents}
use Rattle.rtl_core.specs.Transfers.{Doing, Ran, Went, all_transferred, fresh}
use Rattle.rtl_core.proofs.Kept.{Keeps, no-service}
use Rattle.points.specs.declared.block.Block.{Block}
use Rattle.points.specs.declared.block.JumpKind.{JumpKind}
use Rattle.points.specs.Bodies.{Code, code_of, Body}
use Rattle.points.specs.Courses.{halts, jump_mode, annul_mode}
use Rattle.points.specs.Kinds.{block_at}
use Rattle.points.specs.Machine.{Setting}
use Rattle.points.specs.Running.{State, MNext, Did, after_transfers, concluded, controlled, finished, service_due, stepped}
use Rattle.points.specs.Running as Running
use Rattle.c_lang.specs.declared.tree.CExpr.TheVariants.{Num}
use Rattle.c_lang.specs.declared.tree.End.TheVariants.{Finish}
use Rattle.c_lang.specs.declared.tree.Program.{Program}
use Rattle.c_lang.specs.declared.tree.Var.TheVariants.{Pt, Temp}
use Rattle.c_lang.specs.Value.{Vars}
use Rattle.c_lang.specs.State.{Outer}
use Rattle.c_lang.specs.State as C
use Rattle.c_lang.specs.Step.{named_stops}
use Rattle.c_lang.proofs.StepsFrom.{step-Finish}
use Rattle.c_lang.proofs.ValueLaws.{value-Num}
use Rattle.c_lower.specs.Accounts.{lowered_steps}
use Rattle.c_control.specs.Blocks.{Code as Coded, code_of_block, control_code, ends, never}
use Rattle.c_control.specs.Frames.{HoldsTarget}
use Rattle.c_control.specs.Pieces.{illegal_stop, undiscovered_stop}
use Rattle.c_control.specs.Plans.{Plan}
use Rattle.c_control.specs.Services.{served_c}
use Rattle.c_control.proofs.Steps.{st, seen, last}
use Rattle.c_control.proofs.Frames.{Emission, Inv, Related, Way, owed, way}
use Rattle.c_control.proofs.Arrivals.{Stand, Pays, here, output-is, pay, pay_more}
use Rattle.c_control.proofs.Behind.{Left, control_cost, control_run}
use Rattle.c_control.proofs.Performing.{few-steps, small-pc, transfers_run}
use Rattle.c_control.proofs.Modes.{jump-possible, annul-possible, not-halted, never-jumps-at}
use Rattle.c_control.proofs.Coming.{lands, has-further}
use Rattle.c_control.proofs.Serving.{served_run}
use Rattle.c_control.proofs.Owing.{concludes}

module _ (g : Emission) where
  abbrev plan : Plan
  plan = g.plan

  abbrev setting : Setting
  setting = plan.flow.setting

  abbrev m : Machine
  m = setting.machine

  abbrev program : Program
  program = g.program

  abbrev code : Code
  code = code_of setting plan.flow.table

  -- the steps of one instruction, but for what tail jumps have put aside
  abbrev pub enough : ℕ
  enough = 8 * m.most_nodes + 2 * length m.widths + 132

  -- what holds of `pt` holds of the same `pt`
  holds-same : (slot : Slot) (old new : Vars) (target : ℕ) → new Pt ≡ old Pt → HoldsTarget slot old target → HoldsTarget slot new target
  holds-same Seq old new target e h = tt
  holds-same (To t) old new target e h = tt
  holds-same (CallTo t back) old new target e h = tt
  holds-same (Dyn a) old new target e h = (e ∙ h.0, h.1)
  holds-same (CallDyn back) old new target e h = (e ∙ h.0, h.1)
  holds-same Ret old new target e h = (e ∙ h.0, h.1)

  -- a named stop ends the run
  stop_run : (s : State) (t : Stand g s) (k : ℕ) (stop : Stop) → s.control.point.pc < 2 ^ 32 → slice_get (named_stops s.control.point.pc) k ≡ Some stop
      → Pays g enough s.output (Ends s.output stop) (owed g s.control.calls) (Goes (here g s t [] (Finish k (Num s.control.point.pc))))
  stop_run s t k stop lt is =
      let x : MNext = Ends s.output stop in
      let c = here g s t [] (Finish k (Num s.control.point.pc)) in
      pay g enough s.output x (owed g s.control.calls) 0 c (omega arith)
      (last program s.output (Way g s.output x) (Matches (Related g) x) (way g s.output x) c (Ends t.outer.output (Stops stop)) (output-is g s t)
      (step-Finish program c k s.control.point.pc (Num s.control.point.pc) stop refl (value-Num (seen t.vars t.outer) s.control.point.pc) (ap (λ n. slice_get (named_stops n) k) (mod-eq_of_lt lt) ∙ is)) (output-is g s t, refl))

  module _ (s : State) (t : Stand g s) (inside : Body code t.q s.control.point) (target : HoldsTarget s.control.point.slot t.vars s.control.target) (inst : GroundInst) (kind : JumpKind)
      (e : block_at setting s.control.point.pc ≡ Block.Inst inst kind) where
    abbrev pc : ℕ
    pc = s.control.point.pc

    abbrev ran : Ran
    ran = all_transferred m pc inst.transfers (fresh s.cells s.memory s.saved)

    abbrev behind : Coded
    behind = control_code plan t.q s.control.point inst kind

    -- control, behind transfers and service
    controls : (d : Doing) → ran ≡ Went d → (cells : List ℕ) (memory : Contents) (saved : List (List ℕ)) (input output : List ℕ) (heap_end : ℕ) (vars : Vars) (outer : Outer)
        → (let s' : State = record { cells = cells; memory = memory; saved = saved; control = s.control; input = input; output = output; heap_end = heap_end } in
        Inv g s' t.q t.callers vars t.frames outer → Left g d.jump d.annul vars → vars Pt ≡ t.vars Pt
        → Pays g (control_cost g) output (controlled plan.flow (record { inst = inst; kind = kind; jump = d.jump; annul = d.annul }) s') (owed g s.control.calls) (Goes (st t.fn.found.index behind.stmts behind.end vars t.frames outer)))
    controls d is cells memory saved input output heap_end vars outer inv left pt =
        let s' : State = record { cells = cells; memory = memory; saved = saved; control = s.control; input = input; output = output; heap_end = heap_end } in
        let u : Stand g s' = record { q = t.q; callers = t.callers; fn = t.fn; procedure = t.procedure; vars = vars; frames = t.frames; outer = outer; inv = inv } in
        let ej = jump-possible m pc inst.transfers s.cells s.memory s.saved d is in
        let ea = annul-possible m pc inst.transfers s.cells s.memory s.saved d is in
        let going = not-halted m pc inst.transfers s.cells s.memory s.saved d is in
        let off = never-jumps-at setting inst pc kind s.cells s.memory s.saved d e is in
        control_run g s' u inst.next (jump_mode inst.transfers) (annul_mode inst.transfers) d.jump d.annul left ej ea s.control.point.slot kind off
        (lands g t.q s.control.point inst kind (is_some d.jump) d.annul t.procedure inside e going ej ea off) (holds-same s.control.point.slot t.vars vars s.control.target pt target)
        (λ fresh'. has-further g t.q t.fn s.control.point inst kind inside e going fresh') (small-pc g s t inst kind inside e)

    -- the service where one is due, and control
    serves : (d : Doing) → ran ≡ Went d → (vars : Vars) (outer : Outer) → Inv g (after_transfers s d) t.q t.callers vars t.frames outer → Left g d.jump d.annul vars → vars (Temp 3) ≡ Some (flag d.service) → vars Pt ≡ t.vars Pt
        → Pays g (control_cost g + 4) s.output (concluded plan.flow inst kind (Went d) s) (owed g s.control.calls) (Goes (st t.fn.found.index (served_c m setting.conv inst.transfers behind.stmts) behind.end vars t.frames outer))
    serves d is vars outer inv left service pt =
        let s1 = after_transfers s d in
        let u : Stand g s1 = record { q = t.q; callers = t.callers; fn = t.fn; procedure = t.procedure; vars = vars; frames = t.frames; outer = outer; inv = inv } in
        let did : Did = record { inst = inst; kind = kind; jump = d.jump; annul = d.annul } in
        served_run g s1 u did behind.stmts behind.end (control_cost g) d.service s.control.point inside e service
        (λ off. subst (Keeps (λ (d : Doing). d.service) false) is (no-service m pc inst.transfers s.cells s.memory s.saved off))
        (λ cells memory input output heap_end vars' outer' inv' temps pt'. controls d is cells memory d.saved input output heap_end vars' outer' inv'
        (record { target = temps 0 ∙ left.target; small = left.small; jumps = temps 1 ∙ left.jumps; annuls = temps 2 ∙ left.annuls }) (pt' ∙ pt))

    -- what stands behind the transfers, by whether control can go on
    abbrev rest-by : Bool → Coded
    rest-by b = if b then ends never else record { stmts = served_c m setting.conv inst.transfers behind.stmts; end = behind.end }

    inst_run : Pays g enough s.output (stepped plan.flow (Block.Inst inst kind) s) (owed g s.control.calls)
        (Goes (here g s t (code_of_block plan t.q s.control.point (Block.Inst inst kind)).stmts (code_of_block plan t.q s.control.point (Block.Inst inst kind)).end))
    inst_run = by (halts inst.transfers) refl
      where
        few : Rattle.c_control.proofs.Arrivals.next_owed g (concluded plan.flow inst kind ran s) ≤ control_cost g + 4 + owed g s.control.calls
        few = omega (arith, concludes g inst kind ran s)

        -- all of it, with what stands behind the transfers
        with_rest : (c : Coded) → ((d : Doing) → ran ≡ Went d → (vars : Vars) (outer : Outer) → Inv g (after_transfers s d) t.q t.callers vars t.frames outer → Left g d.jump d.annul vars → vars (Temp 3) ≡ Some (flag d.service) → vars Pt ≡ t.vars Pt
            → Pays g (control_cost g + 4) s.output (concluded plan.flow inst kind (Went d) s) (owed g s.control.calls) (Goes (st t.fn.found.index c.stmts c.end vars t.frames outer)))
            → Pays g enough s.output (concluded plan.flow inst kind ran s) (owed g s.control.calls) (Goes (here g s t (Rattle.c_lower.specs.Lowered.lowered m pc inst.transfers [] ++ c.stmts) c.end))
        with_rest c go =
            let from = here g s t (Rattle.c_lower.specs.Lowered.lowered m pc inst.transfers [] ++ c.stmts) c.end in
            let short = few-steps g s t inst kind inside e in
            let le : lowered_steps m inst.transfers + (control_cost g + 4) ≤ enough = omega (arith, short) in
            pay_more g (lowered_steps m inst.transfers + (control_cost g + 4)) enough s.output (concluded plan.flow inst kind ran s) (owed g s.control.calls) from le
            (transfers_run g s t inst kind inside e c.stmts c.end (control_cost g + 4) few go)

        by : (b : Bool) → halts inst.transfers ≡ b → Pays g enough s.output (concluded plan.flow inst kind ran s) (owed g s.control.calls)
            (Goes (here g s t (Rattle.c_lower.specs.Lowered.lowered m pc inst.transfers [] ++ (rest-by (halts inst.transfers)).stmts) (rest-by (halts inst.transfers)).end))
        by true h =
            subst (λ b. Pays g enough s.output (concluded plan.flow inst kind ran s) (owed g s.control.calls) (Goes (here g s t (Rattle.c_lower.specs.Lowered.lowered m pc inst.transfers [] ++ (rest-by b).stmts) (rest-by b).end))) (sym h)
            (with_rest (ends never) (λ d is vars outer inv left service pt. let no : ⊥ = let w = sym h ∙ not-halted m pc inst.transfers s.cells s.memory s.saved d is in cc in absurd no))
        by false h =
            subst (λ b. Pays g enough s.output (concluded plan.flow inst kind ran s) (owed g s.control.calls) (Goes (here g s t (Rattle.c_lower.specs.Lowered.lowered m pc inst.transfers [] ++ (rest-by b).stmts) (rest-by b).end))) (sym h)
            (with_rest (rest-by false) serves)

  abbrev stand-of : (s : State) (c : C.State) → Related g s c → Stand g s
  stand-of s c r = record { q = r.q; callers = r.callers; fn = r.fn; procedure = r.procedure; vars = r.vars; frames = r.frames; outer = r.outer; inv = r.inv }

  -- one instruction, from related states
  pub step_run : (s : State) (c : C.State) → Related g s c → Pays g enough s.output (Running.step plan.flow s) (owed g s.control.calls) (Goes c)
  step_run s c r = subst (λ c. Pays g enough s.output (Running.step plan.flow s) (owed g s.control.calls) (Goes c)) (sym r.is) (by (block_at setting s.control.point.pc) refl)
    where
      lt : s.control.point.pc < 2 ^ 32
      lt = g.planned.small r.q s.control.point r.procedure r.inside

      by : (k : Block) → block_at setting s.control.point.pc ≡ k
          → Pays g enough s.output (stepped plan.flow k s) (owed g s.control.calls) (Goes (st r.fn.found.index (code_of_block plan r.q s.control.point k).stmts (code_of_block plan r.q s.control.point k).end r.vars r.frames r.outer))
      by Block.Outside e = stop_run s (stand-of s c r) undiscovered_stop (Stop.Undiscovered s.control.point.pc) lt refl
      by Block.Illegal e = stop_run s (stand-of s c r) illegal_stop (Stop.Illegal s.control.point.pc) lt refl
      by (Block.Inst inst kind) e = inst_run s (stand-of s c r) r.inside r.target inst kind e
