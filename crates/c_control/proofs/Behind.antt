-- Control behind an instruction, by what is to come and how the instruction jumps.
use Rattle.std.proofs.Common.{◌≡◌, ℕ, suc, ◌+◌, ◌^◌, ◌<◌, Bool, true, false, ◌||◌, [], ◌∷◌, Option, Some, None, refl, sym, ap, ◌∙◌, subst, arith}
use Rattle.std.specs.Prelude.{slice_get, is_some, if◌then◌else◌}
use Rattle.lockstep.specs.Runs.{Goes, Ends, Stops}
use Rattle.rtl_core.specs.declared.stop.Stop.{Stop}
use Rattle.rtl_core.specs.declared.machine.Machine.{Machine}
use Rattle.rtl_core.specs.declared.point.Point.{Point}
use Rattle.rtl_core.specs.declared.point.Slot.{Slot}
use Rattle.rtl_core.specs.declared.point.Slot.TheVariants.{Seq, To, Dyn, CallTo, CallDyn, Ret}
use Rattle.rtl_core.specs.Arithmetic.{flag}
use Rattle.points.specs.declared.block.Course.TheVariants.{On, Arrives as Arriving, Couples}
use Rattle.points.specs.declared.block.JumpKind.{JumpKind}
use Rattle.points.specs.declared.block.Mode.{Mode}
use Rattle.points.specs.declared.block.Mode.TheVariants.{Never, Maybe, Always}
use Rattle.points.specs.Kinds.{further, past_slot}
use Rattle.points.specs.Machine.{Setting}
use Rattle.points.specs.Courses.{point, pending, possible, undelayed_course, delayed_course, course_from_seq, course_to, course_to_both, course_to_one, course_from_jump, course_from_slot, course_by}
use Rattle.points.specs.Control.{followed, kept}
use Rattle.points.specs.Bodies.{Code, code_of, Body}
use Rattle.points.specs.Running.{State, MNext, moved}
use Rattle.c_lang.specs.declared.tree.CExpr.TheVariants.{Num}
use Rattle.c_lang.specs.declared.tree.End.{End}
use Rattle.c_lang.specs.declared.tree.Program.{Program}
use Rattle.c_lang.specs.declared.tree.Stmt.TheVariants.{Set}
use Rattle.c_lang.specs.declared.tree.Var.TheVariants.{Pt, Temp}
use Rattle.c_lang.specs.Value.{Vars}
use Rattle.c_lang.specs.State.{with_var}
use Rattle.c_lang.proofs.StepsFrom.{step-Set}
use Rattle.c_lang.proofs.ValueLaws.{value-Num, value-Of}
use Rattle.c_lower.specs.Contract.{jump_value}
use Rattle.c_control.specs.Blocks.{Code as Coded, arrival_code, ways, annul_ways, jump_ways, code_from_seq, code_without_jump, couple_jump, couple_any, code_from_jump, control_by, annul_for, go_on_at}
use Rattle.c_control.specs.Frames.{HoldsTarget}
use Rattle.c_control.specs.Pieces.{jump_target_c, jumped_c, flags_c}
use Rattle.c_control.specs.Plans.{Plan}
use Rattle.c_control.proofs.Steps.{seen}
use Rattle.c_control.proofs.Frames.{Emission, declared-of, owed}
use Rattle.c_control.proofs.Arrivals.{Stand, Pays, here, output-is, pay, pay_more, pay_one}
use Rattle.c_control.proofs.Landing.{at_place, arrival_cost, arrival_run, goto_to}
use Rattle.c_control.proofs.Ways.{LandsIn, ReadsIf, flag_number, flags-value, lead_to, reads-if, way_course, way_of, ways-lead}
use Rattle.c_control.proofs.Controlling.{HasFurther, couple_run, flag-test, flags-test, jump_ways_run, kept-same, stand-at, target_after, with_target}
use Rattle.std.proofs.Math.Nat.{mod-eq_of_lt}
use Rattle.lockstep.specs.Meets.{Matches}
use Rattle.c_lang.specs.declared.tree.End.TheVariants.{Finish}
use Rattle.c_lang.specs.Step.{named_stops}
use Rattle.c_lang.proofs.StepsFrom.{step-Finish}
use Rattle.c_control.specs.Pieces.{couple_stop}
use Rattle.c_control.proofs.Steps.{last}
use Rattle.c_control.proofs.Frames.{Related, Way, way}

module _ (g : Emission) where
  abbrev plan : Plan
  plan = g.plan

  abbrev setting : Setting
  setting = plan.flow.setting

  abbrev m : Machine
  m = setting.machine

  abbrev program : Program
  program = g.program

  abbrev code : Code
  code = code_of setting plan.flow.table

  -- what the statements of an instruction leave for control
  pub record Left (jump : Option ℕ) (annul : Bool) (vars : Vars) : Type 0 where
    pub target : vars (Temp 0) ≡ Some (jump_value jump)
    pub small : jump_value jump < 2 ^ 32
    pub jumps : vars (Temp 1) ≡ Some (flag (is_some jump))
    pub annuls : vars (Temp 2) ≡ Some (flag annul)

  abbrev pub control_cost : ℕ
  control_cost = arrival_cost g + 4

  -- ---- in the slot of a plain jump

  -- an annul leads to one of two addresses
  annul_run : (s : State) (t : Stand g s) (a : Mode) (annul : Bool) (near far : ℕ) → possible a annul ≡ true → t.vars (Temp 2) ≡ Some (flag annul) → Body code t.q (point (if annul then far else near) Seq)
      → Pays g 0 s.output (Goes (at_place g s (point (if annul then far else near) Seq) s.control.target)) (owed g s.control.calls) (Goes (here g s t [] (annul_ways a near far)))
  annul_run s t a annul near far ea e inside =
      let p = point (if annul then far else near) Seq in
      pay g 0 s.output (Goes (at_place g s p s.control.target)) (owed g s.control.calls) 0 (here g s t [] (annul_ways a near far)) (omega arith)
      (lead_to g s t (annul_ways a near far) p s.control.target
      (subst (λ q. Rattle.c_control.proofs.Ways.LeadsBy g s t (annul_ways a near far) q) (which annul) (ways-lead g s t Never a false annul (point near Seq) (point near Seq) (point far Seq) (point far Seq) refl ea tt (reads-if a 2 annul t.vars e))) inside tt)
    where
      which : (b : Bool) → way_of false b (point near Seq) (point near Seq) (point far Seq) (point far Seq) ≡ point (if b then far else near) Seq
      which true = refl
      which false = refl

  -- the course of an annul
  annul-course : (delay : Option ℕ) (t : ℕ) (annul : Bool) → course_to delay t annul ≡ On (point (if annul then past_slot delay t else t) Seq)
  annul-course delay t true = refl
  annul-course delay t false = refl

  -- another jump may stand there, if it is plain and its target is constant
  both_run : (s : State) (t : Stand g s) (at u : ℕ) (j a : Mode) (jumps annul : Bool) → possible j jumps ≡ true → possible a annul ≡ true → t.vars (Temp 1) ≡ Some (flag jumps) → t.vars (Temp 2) ≡ Some (flag annul)
      → LandsIn g t.q (course_to_both m.delay at u jumps annul)
      → Pays g 1 s.output (moved (followed plan.flow (course_to_both m.delay at u jumps annul) s.control) s) (owed g s.control.calls)
      (Goes (here g s t [] (ways j a (point at Seq) (point at (To u)) (point (past_slot m.delay at) Seq) (point u Seq))))
  both_run s t at u j a jumps annul ej ea e1 e2 lands = by jumps annul lands (ways-lead g s t j a jumps annul (point at Seq) (point at (To u)) (point (past_slot m.delay at) Seq) (point u Seq) ej ea (reads-if j 1 jumps t.vars e1) (reads-if a 2 annul t.vars e2))
    where
      end : End
      end = ways j a (point at Seq) (point at (To u)) (point (past_slot m.delay at) Seq) (point u Seq)

      on : (p : Point) → Rattle.c_control.proofs.Ways.LeadsBy g s t (ways j a (point at Seq) (point at (To u)) (point (past_slot m.delay at) Seq) (point u Seq)) p → Body code t.q p → HoldsTarget p.slot t.vars s.control.target
          → Pays g 1 s.output (Goes (at_place g s p s.control.target)) (owed g s.control.calls) (Goes (here g s t [] (ways j a (point at Seq) (point at (To u)) (point (past_slot m.delay at) Seq) (point u Seq))))
      on p leads inside h =
          pay g 1 s.output (Goes (at_place g s p s.control.target)) (owed g s.control.calls) 0 (here g s t [] (ways j a (point at Seq) (point at (To u)) (point (past_slot m.delay at) Seq) (point u Seq))) (omega arith)
          (lead_to g s t (ways j a (point at Seq) (point at (To u)) (point (past_slot m.delay at) Seq) (point u Seq)) p s.control.target leads inside h)

      by : (jumps annul : Bool) → LandsIn g t.q (course_to_both m.delay at u jumps annul)
          → Rattle.c_control.proofs.Ways.LeadsBy g s t (ways j a (point at Seq) (point at (To u)) (point (past_slot m.delay at) Seq) (point u Seq)) (way_of jumps annul (point at Seq) (point at (To u)) (point (past_slot m.delay at) Seq) (point u Seq))
          → Pays g 1 s.output (moved (followed plan.flow (course_to_both m.delay at u jumps annul) s.control) s) (owed g s.control.calls) (Goes (here g s t [] (ways j a (point at Seq) (point at (To u)) (point (past_slot m.delay at) Seq) (point u Seq))))
      by false false lands leads = on (point at Seq) leads lands tt
      by false true lands leads = on (point (past_slot m.delay at) Seq) leads lands tt
      by true false lands leads = on (point at (To u)) leads lands tt
      by true true lands leads = on (point u Seq) leads lands tt

  -- a run that stops there in each case
  finish_couple : (s : State) (t : Stand g s) (x : MNext) (k : ℕ) → s.control.point.pc < 2 ^ 32 → x ≡ Ends s.output (Stop.Couple s.control.point.pc) → Pays g k s.output x (owed g s.control.calls) (Goes (here g s t [] (Finish couple_stop (Num s.control.point.pc))))
  finish_couple s t x k lt e =
      let y : MNext = Ends s.output (Stop.Couple s.control.point.pc) in
      let c = here g s t [] (Finish couple_stop (Num s.control.point.pc)) in
      subst (λ x. Pays g k s.output x (owed g s.control.calls) (Goes c)) (sym e)
      (pay g k s.output y (owed g s.control.calls) 0 c (omega arith)
      (last program s.output (Way g s.output y) (Matches (Related g) y) (way g s.output y) c (Ends t.outer.output (Stops (Stop.Couple s.control.point.pc))) (output-is g s t)
      (step-Finish program c couple_stop s.control.point.pc (Num s.control.point.pc) (Stop.Couple s.control.point.pc) refl (value-Num (seen t.vars t.outer) s.control.point.pc) (ap (λ n. slice_get (named_stops n) couple_stop) (mod-eq_of_lt lt)))
      (output-is g s t, refl)))

  always-done-is : (b : Bool) → possible Always b ≡ true → b ≡ true
  always-done-is true e = refl
  always-done-is false e = let no : ⊥ = cc in absurd no

  or-true : (b : Bool) → (b || true) ≡ true
  or-true true = refl
  or-true false = refl

  -- any other jump stops the run
  one_run : (s : State) (t : Stand g s) (at : ℕ) (j a : Mode) (jumps annul : Bool) → s.control.point.pc < 2 ^ 32 → possible j jumps ≡ true → possible a annul ≡ true → t.vars (Temp 1) ≡ Some (flag jumps) → t.vars (Temp 2) ≡ Some (flag annul)
      → LandsIn g t.q (course_to_one m.delay at jumps annul)
      → Pays g 1 s.output (moved (followed plan.flow (course_to_one m.delay at jumps annul) s.control) s) (owed g s.control.calls)
      (let c = couple_jump s.control.point.pc j (record { stmts = []; end = annul_ways a at (past_slot m.delay at) }) in Goes (here g s t c.stmts c.end))
  one_run s t at j a jumps annul lt ej ea e1 e2 lands = by j ej
    where
      stays : jumps ≡ false → Pays g 0 s.output (moved (followed plan.flow (course_to_one m.delay at jumps annul) s.control) s) (owed g s.control.calls) (Goes (here g s t [] (annul_ways a at (past_slot m.delay at))))
      stays e =
          let is : course_to_one m.delay at jumps annul ≡ On (point (if annul then past_slot m.delay at else at) Seq) = ap (λ b. course_to_one m.delay at b annul) e ∙ annul-course m.delay at annul in
          subst (λ c. Pays g 0 s.output (moved (followed plan.flow c s.control) s) (owed g s.control.calls) (Goes (here g s t [] (annul_ways a at (past_slot m.delay at))))) (sym is)
          (annul_run s t a annul at (past_slot m.delay at) ea e2 (subst (LandsIn g t.q) is lands))

      coupled : Pays g 1 s.output (moved (followed plan.flow (course_to_one m.delay at jumps annul) s.control) s) (owed g s.control.calls)
          (Goes (here g s t (Rattle.c_control.specs.Pieces.stop_if jumped_c Rattle.c_control.specs.Pieces.couple_stop (Num s.control.point.pc) []) (annul_ways a at (past_slot m.delay at))))
      coupled =
          couple_run g s t (moved (followed plan.flow (course_to_one m.delay at jumps annul) s.control) s) jumps jumped_c (flag jumps) 0 [] (annul_ways a at (past_slot m.delay at)) lt (value-Of (seen t.vars t.outer) (Temp 1) ∙ e1) (flag-test g jumps)
          (λ e. ap (λ b. moved (followed plan.flow (course_to_one m.delay at b annul) s.control) s) e) stays

      by : (j : Mode) → possible j jumps ≡ true
          → Pays g 1 s.output (moved (followed plan.flow (course_to_one m.delay at jumps annul) s.control) s) (owed g s.control.calls) (let c = couple_jump s.control.point.pc j (record { stmts = []; end = annul_ways a at (past_slot m.delay at) }) in Goes (here g s t c.stmts c.end))
      by Never e = pay_more g 0 1 s.output (moved (followed plan.flow (course_to_one m.delay at jumps annul) s.control) s) (owed g s.control.calls) (here g s t [] (annul_ways a at (past_slot m.delay at))) (omega arith) (stays (never jumps e))
        where
          never : (b : Bool) → possible Never b ≡ true → b ≡ false
          never true e = let no : ⊥ = cc in absurd no
          never false e = refl
      by Maybe e = coupled
      by Always e = finish_couple s t (moved (followed plan.flow (course_to_one m.delay at jumps annul) s.control) s) 1 lt (ap (λ b. moved (followed plan.flow (course_to_one m.delay at b annul) s.control) s) (always-done-is jumps e))

  -- ---- in any other slot

  slot_run : (s : State) (t : Stand g s) (slot : Slot) (j a : Mode) (jumps annul : Bool) → s.control.point.pc < 2 ^ 32 → possible j jumps ≡ true → possible a annul ≡ true → t.vars (Temp 1) ≡ Some (flag jumps) → t.vars (Temp 2) ≡ Some (flag annul)
      → LandsIn g t.q (course_from_slot slot jumps annul) → ((jumps || annul) ≡ false → HoldsTarget slot t.vars s.control.target)
      → Pays g (suc (arrival_cost g)) s.output (moved (followed plan.flow (course_from_slot slot jumps annul) s.control) s) (owed g s.control.calls)
      (let c = couple_any s.control.point.pc j a (arrival_code plan t.q slot) in Goes (here g s t c.stmts c.end))
  slot_run s t slot j a jumps annul lt ej ea e1 e2 lands holds = by j a ej ea
    where
      arrives : (jumps || annul) ≡ false → Pays g (arrival_cost g) s.output (moved (followed plan.flow (course_from_slot slot jumps annul) s.control) s) (owed g s.control.calls) (Goes (here g s t (arrival_code plan t.q slot).stmts (arrival_code plan t.q slot).end))
      arrives e =
          let is : course_from_slot slot jumps annul ≡ Arriving slot = ap (λ b. if b then Couples else Arriving slot) e in
          subst (λ c. Pays g (arrival_cost g) s.output (moved (followed plan.flow c s.control) s) (owed g s.control.calls) (Goes (here g s t (arrival_code plan t.q slot).stmts (arrival_code plan t.q slot).end))) (sym is)
          (arrival_run g s t slot (subst (LandsIn g t.q) is lands) (holds e))

      coupled : Pays g (suc (arrival_cost g)) s.output (moved (followed plan.flow (course_from_slot slot jumps annul) s.control) s) (owed g s.control.calls)
          (Goes (here g s t (Rattle.c_control.specs.Pieces.stop_if flags_c Rattle.c_control.specs.Pieces.couple_stop (Num s.control.point.pc) (arrival_code plan t.q slot).stmts) (arrival_code plan t.q slot).end))
      coupled =
          couple_run g s t (moved (followed plan.flow (course_from_slot slot jumps annul) s.control) s) (jumps || annul) flags_c (flag_number jumps annul) (arrival_cost g) (arrival_code plan t.q slot).stmts (arrival_code plan t.q slot).end lt
          (flags-value (seen t.vars t.outer) jumps annul e1 e2) (flags-test g jumps annul) (λ e. ap (λ b. moved (followed plan.flow (if b then Couples else Arriving slot) s.control) s) e) arrives

      finished : (jumps || annul) ≡ true → Pays g (suc (arrival_cost g)) s.output (moved (followed plan.flow (course_from_slot slot jumps annul) s.control) s) (owed g s.control.calls) (Goes (here g s t [] (Finish couple_stop (Num s.control.point.pc))))
      finished e = finish_couple s t (moved (followed plan.flow (course_from_slot slot jumps annul) s.control) s) (suc (arrival_cost g)) lt (ap (λ b. moved (followed plan.flow (if b then Couples else Arriving slot) s.control) s) e)

      none : (x y : Bool) → possible Never x ≡ true → possible Never y ≡ true → (x || y) ≡ false
      none true y e f = let no : ⊥ = cc in absurd no
      none false true e f = let no : ⊥ = cc in absurd no
      none false false e f = refl

      by : (j a : Mode) → possible j jumps ≡ true → possible a annul ≡ true
          → Pays g (suc (arrival_cost g)) s.output (moved (followed plan.flow (course_from_slot slot jumps annul) s.control) s) (owed g s.control.calls) (let c = couple_any s.control.point.pc j a (arrival_code plan t.q slot) in Goes (here g s t c.stmts c.end))
      by Never Never e f =
          pay_more g (arrival_cost g) (suc (arrival_cost g)) s.output (moved (followed plan.flow (course_from_slot slot jumps annul) s.control) s) (owed g s.control.calls) (here g s t (arrival_code plan t.q slot).stmts (arrival_code plan t.q slot).end) (omega arith) (arrives (none jumps annul e f))
      by Never Maybe e f = coupled
      by Maybe Never e f = coupled
      by Maybe Maybe e f = coupled
      by Never Always e f = finished (ap (λ b. jumps || b) (always-done-is annul f) ∙ or-true jumps)
      by Maybe Always e f = finished (ap (λ b. jumps || b) (always-done-is annul f) ∙ or-true jumps)
      by Always a e f = finished (ap (λ b. b || annul) (always-done-is jumps e))

  -- ---- with nothing to come

  delayed-way : (delay next : ℕ) (slot : Slot) (jumps annuls : Bool) → delayed_course delay next slot jumps annuls ≡ way_course jumps annuls (point next Seq) (point next slot) (point (further next delay) Seq) slot
  delayed-way delay next slot false false = refl
  delayed-way delay next slot true false = refl
  delayed-way delay next slot false true = refl
  delayed-way delay next slot true true = refl

  undelayed-way : (next : ℕ) (slot : Slot) (jumps : Bool) → undelayed_course next slot jumps ≡ way_course jumps true (point next Seq) (point next Seq) (point next Seq) slot
  undelayed-way next slot false = refl
  undelayed-way next slot true = refl

  -- a jump whose target is kept where its arrival asks for it
  seq_ways : (s : State) (t : Stand g s) (pc next : ℕ) (slot : Slot) (j a : Mode) (jumps annul : Bool) → possible j jumps ≡ true → possible a annul ≡ true → t.vars (Temp 1) ≡ Some (flag jumps) → t.vars (Temp 2) ≡ Some (flag annul)
      → (jumps ≡ true → HoldsTarget slot t.vars s.control.target) → (delay : Option ℕ) → LandsIn g t.q (course_from_seq delay next slot jumps annul) → HasFurther g t.q t.fn.found.index pc j (annul_for delay a) slot
      → Pays g (arrival_cost g + 2) s.output (moved (followed plan.flow (course_from_seq delay next slot jumps annul) s.control) s) (owed g s.control.calls)
      (let c = code_from_seq plan t.q pc next delay j a slot in Goes (here g s t c.stmts c.end))
  seq_ways s t pc next slot j a jumps annul ej ea e1 e2 holds None lands further' =
      let is = undelayed-way next slot jumps in
      let c : Coded = jump_ways plan t.q pc false j Always (point next Seq) (point next Seq) (point next Seq) slot in
      subst (λ w. Pays g (arrival_cost g + 2) s.output (moved (followed plan.flow w s.control) s) (owed g s.control.calls) (Goes (here g s t c.stmts c.end))) (sym is)
      (jump_ways_run g s t pc false j Always jumps true (point next Seq) (point next Seq) (point next Seq) slot (e1, refl) tt ej refl (subst (LandsIn g t.q) is lands) (plain jumps) holds further')
    where
      plain : (b : Bool) → HoldsTarget (way_of b true (point next Seq) (point next Seq) (point next Seq) (point next Seq)).slot t.vars s.control.target
      plain true = tt
      plain false = tt
  seq_ways s t pc next slot j a jumps annul ej ea e1 e2 holds (Some delay) lands further' =
      let is = delayed-way delay next slot jumps annul in
      let c : Coded = jump_ways plan t.q pc true j a (point next Seq) (point next slot) (point (further next delay) Seq) slot in
      subst (λ w. Pays g (arrival_cost g + 2) s.output (moved (followed plan.flow w s.control) s) (owed g s.control.calls) (Goes (here g s t c.stmts c.end))) (sym is)
      (jump_ways_run g s t pc true j a jumps annul (point next Seq) (point next slot) (point (further next delay) Seq) slot (e1, e2) (reads-if a 2 annul t.vars e2) ej ea (subst (LandsIn g t.q) is lands) (pended jumps annul holds) holds further')
    where
      pended : (b d : Bool) → (b ≡ true → HoldsTarget slot t.vars s.control.target) → HoldsTarget (way_of b d (point next Seq) (point next slot) (point (further next delay) Seq) (point next Seq)).slot t.vars s.control.target
      pended false false h = tt
      pended true false h = h refl
      pended false true h = tt
      pended true true h = tt

  -- what keeps the target asks for its declaration
  pub target-declared : (s : State) (t : Stand g s) → Rattle.c_lang.specs.State.declared_in (slice_get program.functions t.fn.found.index) Pt ≡ true
  target-declared s t = (declared-of g t.q t.fn).target

  -- the target behind an instruction, where it jumped
  value-after : (jump : Option ℕ) (old : ℕ) → is_some jump ≡ true → jump_value jump ≡ target_after g jump old
  value-after None old e = let no : ⊥ = cc in absurd no
  value-after (Some v) old e = refl

  module _ (s : State) (t : Stand g s) (next : ℕ) (j a : Mode) (jump : Option ℕ) (annul : Bool) (left : Left jump annul t.vars) (ej : possible j (is_some jump) ≡ true) (ea : possible a annul ≡ true) where
    abbrev after : State
    after = at_place g s s.control.point (target_after g jump s.control.target)

    abbrev there : Stand g after
    there = stand-at g s t (target_after g jump s.control.target)

    abbrev Seq_runs : Slot → Coded → Type 0
    Seq_runs slot c = Pays g control_cost s.output (moved (followed plan.flow (course_from_seq m.delay next slot (is_some jump) annul) (kept jump s.control)) s) (owed g s.control.calls) (Goes (here g s t c.stmts c.end))

    -- a jump that keeps no target
    seq_constant : (slot : Slot) → ((vars : Vars) (target : ℕ) → HoldsTarget slot vars target) → LandsIn g t.q (course_from_seq m.delay next slot (is_some jump) annul) → HasFurther g t.q t.fn.found.index s.control.point.pc j (annul_for m.delay a) slot
        → Seq_runs slot (code_from_seq plan t.q s.control.point.pc next m.delay j a slot)
    seq_constant slot free lands further' =
        let co = course_from_seq m.delay next slot (is_some jump) annul in
        let c : Coded = code_from_seq plan t.q s.control.point.pc next m.delay j a slot in
        subst (λ x. Pays g control_cost s.output x (owed g s.control.calls) (Goes (here g s t c.stmts c.end))) (sym (kept-same g s jump co))
        (pay_more g (arrival_cost g + 2) control_cost s.output (moved (followed plan.flow co after.control) after) (owed g s.control.calls) (here g s t c.stmts c.end) (omega arith)
        (seq_ways after there s.control.point.pc next slot j a (is_some jump) annul ej ea left.jumps left.annuls (λ e. free t.vars (target_after g jump s.control.target)) m.delay lands further'))

    -- a jump that keeps its target
    seq_kept : (slot : Slot) → ((vars : Vars) (target : ℕ) → vars Pt ≡ Some target → target < 2 ^ 32 → HoldsTarget slot vars target) → LandsIn g t.q (course_from_seq m.delay next slot (is_some jump) annul) → HasFurther g t.q t.fn.found.index s.control.point.pc j (annul_for m.delay a) slot
        → (let c = code_from_seq plan t.q s.control.point.pc next m.delay j a slot in Seq_runs slot (record { stmts = Set Pt jump_target_c ∷ c.stmts; end = c.end }))
    seq_kept slot held lands further' =
        let co = course_from_seq m.delay next slot (is_some jump) annul in
        let c : Coded = code_from_seq plan t.q s.control.point.pc next m.delay j a slot in
        let n = jump_value jump in
        let x = moved (followed plan.flow co after.control) after in
        let u : Stand g after = with_target g after there n in
        let from = here g s t (Set Pt jump_target_c ∷ c.stmts) c.end in
        subst (λ x. Pays g control_cost s.output x (owed g s.control.calls) (Goes from)) (sym (kept-same g s jump co))
        (pay_more g (suc (arrival_cost g + 2)) control_cost s.output x (owed g s.control.calls) from (omega arith)
        (pay_one g (arrival_cost g + 2) s.output x (owed g s.control.calls) from (Goes (here g after u c.stmts c.end)) (output-is g s t)
        (step-Set program from Pt jump_target_c n c.stmts c.end refl (value-Of (seen t.vars t.outer) (Temp 0) ∙ left.target) (target-declared s t))
        (seq_ways after u s.control.point.pc next slot j a (is_some jump) annul ej ea left.jumps left.annuls
        (λ e. held u.vars (target_after g jump s.control.target) (ap Some (value-after jump s.control.target e)) (subst (λ k. k < 2 ^ 32) (value-after jump s.control.target e) left.small)) m.delay lands further')))

    -- without a jump
    seq_none : is_some jump ≡ false → LandsIn g t.q (course_from_seq m.delay next Seq (is_some jump) annul) → Seq_runs Seq (code_without_jump next m.delay a)
    seq_none off lands =
        subst (λ x. Pays g control_cost s.output x (owed g s.control.calls) (Goes (here g s t (code_without_jump next m.delay a).stmts (code_without_jump next m.delay a).end))) (sym (kept-same g s jump (course_from_seq m.delay next Seq (is_some jump) annul)))
        (by m.delay lands)
      where
        by : (delay : Option ℕ) → LandsIn g t.q (course_from_seq delay next Seq (is_some jump) annul)
            → Pays g control_cost s.output (moved (followed plan.flow (course_from_seq delay next Seq (is_some jump) annul) after.control) after) (owed g s.control.calls)
            (Goes (here g s t (code_without_jump next delay a).stmts (code_without_jump next delay a).end))
        by None lands' =
            let is : undelayed_course next Seq (is_some jump) ≡ On (point next Seq) = ap (undelayed_course next Seq) off in
            let x : MNext = Goes (at_place g s (point next Seq) after.control.target) in
            subst (λ w. Pays g control_cost s.output (moved (followed plan.flow w after.control) after) (owed g s.control.calls) (Goes (here g s t [] (go_on_at next)))) (sym is)
            (pay g control_cost s.output x (owed g s.control.calls) 0 (here g s t [] (go_on_at next)) (omega arith) (goto_to g after there (point next Seq) after.control.target (subst (LandsIn g t.q) is lands') tt))
        by (Some delay) lands' =
            let is : delayed_course delay next Seq (is_some jump) annul ≡ On (point (if annul then further next delay else next) Seq) = ap (λ b. delayed_course delay next Seq b annul) off ∙ one-of annul in
            subst (λ w. Pays g control_cost s.output (moved (followed plan.flow w after.control) after) (owed g s.control.calls) (Goes (here g s t [] (annul_ways a next (further next delay))))) (sym is)
            (pay_more g 0 control_cost s.output (Goes (at_place g s (point (if annul then further next delay else next) Seq) after.control.target)) (owed g s.control.calls) (here g s t [] (annul_ways a next (further next delay))) (omega arith)
            (annul_run after there a annul next (further next delay) ea left.annuls (subst (LandsIn g t.q) is lands')))
          where
            one-of : (b : Bool) → delayed_course delay next Seq false b ≡ On (point (if b then further next delay else next) Seq)
            one-of true = refl
            one-of false = refl

    -- in a slot of any other jump
    same-target : (jump : Option ℕ) (annul : Bool) (old : ℕ) → (is_some jump || annul) ≡ false → target_after g jump old ≡ old
    same-target None annul old e = refl
    same-target (Some v) annul old e = let no : ⊥ = cc in absurd no

    holds-after : (is_some jump || annul) ≡ false → (t.vars Pt ≡ Some s.control.target) × (s.control.target < 2 ^ 32) → (t.vars Pt ≡ Some (target_after g jump s.control.target)) × (target_after g jump s.control.target < 2 ^ 32)
    holds-after e h = subst (λ k. (t.vars Pt ≡ Some k) × (k < 2 ^ 32)) (sym (same-target jump annul s.control.target e)) h

    slotted : (slot : Slot) → ((is_some jump || annul) ≡ false → HoldsTarget slot t.vars (target_after g jump s.control.target)) → LandsIn g t.q (course_from_slot slot (is_some jump) annul) → s.control.point.pc < 2 ^ 32
        → Pays g control_cost s.output (moved (followed plan.flow (course_from_slot slot (is_some jump) annul) (kept jump s.control)) s) (owed g s.control.calls)
        (let c = couple_any s.control.point.pc j a (arrival_code plan t.q slot) in Goes (here g s t c.stmts c.end))
    slotted slot holds lands lt =
        let co = course_from_slot slot (is_some jump) annul in
        let c : Coded = couple_any s.control.point.pc j a (arrival_code plan t.q slot) in
        subst (λ x. Pays g control_cost s.output x (owed g s.control.calls) (Goes (here g s t c.stmts c.end))) (sym (kept-same g s jump co))
        (pay_more g (suc (arrival_cost g)) control_cost s.output (moved (followed plan.flow co after.control) after) (owed g s.control.calls) (here g s t c.stmts c.end) (omega arith)
        (slot_run after there slot j a (is_some jump) annul lt ej ea left.jumps left.annuls lands holds))

    -- control behind an instruction at a point with this slot, whose jump is of this kind
    pub control_run : (slot : Slot) (kind : JumpKind) → (kind ≡ JumpKind.Never → is_some jump ≡ false) → LandsIn g t.q (course_by m s.control.point.pc slot next kind (is_some jump) annul) → HoldsTarget slot t.vars s.control.target
        → (slot ≡ Seq → HasFurther g t.q t.fn.found.index s.control.point.pc j (annul_for m.delay a) (pending s.control.point.pc kind)) → s.control.point.pc < 2 ^ 32
        → Pays g control_cost s.output (moved (followed plan.flow (course_by m s.control.point.pc slot next kind (is_some jump) annul) (kept jump s.control)) s) (owed g s.control.calls)
        (let c = control_by plan t.q s.control.point.pc next slot kind j a in Goes (here g s t c.stmts c.end))
    control_run Seq JumpKind.Never off lands holds further' lt = seq_none (off refl) lands
    control_run Seq (JumpKind.To u) off lands holds further' lt = seq_constant (To u) (λ v k. tt) lands (further' refl)
    control_run Seq (JumpKind.CallTo u back) off lands holds further' lt = seq_constant (CallTo u back) (λ v k. tt) lands (further' refl)
    control_run Seq JumpKind.Dyn off lands holds further' lt = seq_kept (Dyn s.control.point.pc) (λ v k e l. (e, l)) lands (further' refl)
    control_run Seq (JumpKind.CallDyn back) off lands holds further' lt = seq_kept (CallDyn back) (λ v k e l. (e, l)) lands (further' refl)
    control_run Seq JumpKind.Ret off lands holds further' lt = seq_kept Ret (λ v k e l. (e, l)) lands (further' refl)
    control_run (To u) kind off lands holds further' lt =
        let co = course_by m s.control.point.pc (To u) next kind (is_some jump) annul in
        let c : Coded = code_from_jump m.delay s.control.point.pc u kind j a in
        subst (λ x. Pays g control_cost s.output x (owed g s.control.calls) (Goes (here g s t c.stmts c.end))) (sym (kept-same g s jump co)) (by kind lands)
      where
        one : LandsIn g t.q (course_to_one m.delay u (is_some jump) annul)
            → Pays g control_cost s.output (moved (followed plan.flow (course_to_one m.delay u (is_some jump) annul) after.control) after) (owed g s.control.calls)
            (let c = couple_jump s.control.point.pc j (record { stmts = []; end = annul_ways a u (past_slot m.delay u) }) in Goes (here g s t c.stmts c.end))
        one inside =
            let c : Coded = couple_jump s.control.point.pc j (record { stmts = []; end = annul_ways a u (past_slot m.delay u) }) in
            pay_more g 1 control_cost s.output (moved (followed plan.flow (course_to_one m.delay u (is_some jump) annul) after.control) after) (owed g s.control.calls) (here g s t c.stmts c.end) (omega arith)
            (one_run after there u j a (is_some jump) annul lt ej ea left.jumps left.annuls inside)

        by : (kind : JumpKind) → LandsIn g t.q (course_from_jump m.delay u kind (is_some jump) annul)
            → Pays g control_cost s.output (moved (followed plan.flow (course_from_jump m.delay u kind (is_some jump) annul) after.control) after) (owed g s.control.calls)
            (let c = code_from_jump m.delay s.control.point.pc u kind j a in Goes (here g s t c.stmts c.end))
        by JumpKind.Never inside = one inside
        by JumpKind.Dyn inside = one inside
        by (JumpKind.CallTo v back) inside = one inside
        by (JumpKind.CallDyn back) inside = one inside
        by JumpKind.Ret inside = one inside
        by (JumpKind.To v) inside =
            pay_more g 1 control_cost s.output (moved (followed plan.flow (course_to_both m.delay u v (is_some jump) annul) after.control) after) (owed g s.control.calls)
            (here g s t [] (ways j a (point u Seq) (point u (To v)) (point (past_slot m.delay u) Seq) (point v Seq))) (omega arith) (both_run after there u v j a (is_some jump) annul ej ea left.jumps left.annuls inside)
    control_run (Dyn b) kind off lands holds further' lt = slotted (Dyn b) (λ e. holds-after e holds) lands lt
    control_run (CallTo u back) kind off lands holds further' lt = slotted (CallTo u back) (λ e. tt) lands lt
    control_run (CallDyn back) kind off lands holds further' lt = slotted (CallDyn back) (λ e. holds-after e holds) lands lt
    control_run Ret kind off lands holds further' lt = slotted Ret (λ e. holds-after e holds) lands lt
