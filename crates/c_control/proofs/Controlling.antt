-- Control behind an instruction, whatever is to come at its point.
use Rattle.std.proofs.Common.{◌≡◌, ℕ, suc, ◌+◌, ◌^◌, ◌<◌, Bool, true, false, ◌||◌, ◌&&◌, List, [], Option, Some, None, refl, sym, ap, ◌∙◌, subst, arith}
use Rattle.std.specs.Prelude.{slice_get, not, if◌then◌else◌, Ok, Err}
use Rattle.std.proofs.Math.Nat.{mod-eq_of_lt}
use Rattle.lockstep.specs.Runs.{Goes, Ends}
use Rattle.lockstep.specs.Meets.{Matches}
use Rattle.rtl_core.specs.declared.machine.Machine.{Machine}
use Rattle.rtl_core.specs.declared.point.Point.{Point}
use Rattle.rtl_core.specs.declared.point.Slot.{Slot}
use Rattle.rtl_core.specs.declared.point.Slot.TheVariants.{Seq, To, Dyn, CallTo, CallDyn, Ret}
use Rattle.rtl_core.specs.declared.stop.Stop.{Stop}
use Rattle.rtl_core.specs.Arithmetic.{flag}
use Rattle.points.specs.declared.block.Course.{Course}
use Rattle.points.specs.declared.block.Course.TheVariants.{Arrives as Arriving}
use Rattle.points.specs.declared.block.Mode.{Mode}
use Rattle.points.specs.declared.block.Mode.TheVariants.{Never, Maybe, Always}
use Rattle.points.specs.Kinds.{further}
use Rattle.points.specs.Machine.{Setting}
use Rattle.points.specs.Courses.{point, possible}
use Rattle.points.specs.Control.{Move, arrived, followed, kept}
use Rattle.points.specs.Bodies.{Code, code_of, Body}
use Rattle.points.specs.Running.{State, MNext, moved}
use Rattle.c_lang.specs.declared.tree.CExpr.{CExpr}
use Rattle.c_lang.specs.declared.tree.CExpr.TheVariants.{Num}
use Rattle.c_lang.specs.declared.tree.End.{End}
use Rattle.c_lang.specs.declared.tree.Program.{Program}
use Rattle.c_lang.specs.declared.tree.Stmt.{Stmt}
use Rattle.c_lang.specs.declared.tree.Var.TheVariants.{Pt, Temp}
use Rattle.c_lang.specs.Value.{value}
use Rattle.c_lang.specs.State.{with_var}
use Rattle.c_lang.specs.Step.{named_stops}
use Rattle.c_lang.proofs.ValueLaws.{value-Num}
use Rattle.c_control.specs.Blocks.{Code as Coded, labelled, arrival_code, ways, can_arrive, always_arrives, is_selected, selected_code, arrival_point, jump_ways, leaves_apart}
use Rattle.c_control.specs.Frames.{HoldsTarget}
use Rattle.c_control.specs.Pieces.{couple_stop, stop_if}
use Rattle.c_control.specs.Plans.{Plan, further_label}
use Rattle.c_control.proofs.Steps.{seen, stops_run}
use Rattle.c_lang.proofs.StepsFrom.{step-Set}
use Rattle.c_control.proofs.Frames.{Emission, Related, Way, owed, way}
use Rattle.c_control.proofs.Arrivals.{Stand, Pays, here, output-is, pay, pay_more, pay_one}
use Rattle.c_control.proofs.Landing.{Arrives, at_place, arrival_cost, arrival_run, inv-at}
use Rattle.c_control.proofs.Ways.{HasBlock, LandsIn, LeadsBy, ReadsIf, can-arrive, flag_number, lead_further, lead_to, reads-if, way_course, way_of, ways-lead}
use Rattle.c_control.proofs.Selecting.{HasFlags, selected_run}

pub and-true : (a b : Bool) → a ≡ true → b ≡ true → (a && b) ≡ true
and-true a b e f = ap (λ x. x && b) e ∙ f

pub always-done : (j a : Mode) (jumps annuls : Bool) → always_arrives j a ≡ true → possible j jumps ≡ true → possible a annuls ≡ true → (jumps ≡ true) × (annuls ≡ true)
always-done Never a jumps annuls e f h = let no : ⊥ = cc in absurd no
always-done Maybe a jumps annuls e f h = let no : ⊥ = cc in absurd no
always-done Always Never jumps annuls e f h = let no : ⊥ = cc in absurd no
always-done Always Maybe jumps annuls e f h = let no : ⊥ = cc in absurd no
always-done Always Always true true e f h = (refl, refl)
always-done Always Always false annuls e f h = let no : ⊥ = cc in absurd no
always-done Always Always true false e f h = let no : ⊥ = cc in absurd no

module _ (g : Emission) where
  abbrev plan : Plan
  plan = g.plan

  abbrev setting : Setting
  setting = plan.flow.setting

  abbrev m : Machine
  m = setting.machine

  abbrev program : Program
  program = g.program

  abbrev code : Code
  code = code_of setting plan.flow.table

  -- ---- a jump with nothing to come

  -- the further block is there where the arrival asks for it
  abbrev pub HasFurther : (q ix pc : ℕ) → Mode → Mode → Slot → Type 0
  HasFurther q ix pc j a slot = leaves_apart plan j a slot ≡ true → HasBlock g q ix (further_label pc) (labelled (further_label pc) (arrival_code plan q slot))

  -- an arrival through an end that leads to its point
  once_run : (s : State) (t : Stand g s) (pc : ℕ) (end : End) (j a : Mode) (slot : Slot) → can_arrive j a ≡ true → always_arrives j a ≡ false → is_selected plan slot ≡ false → HasFurther t.q t.fn.found.index pc j a slot
      → LeadsBy g s t end (arrival_point pc slot) → Arrives g t.q slot → HoldsTarget slot t.vars s.control.target
      → Pays g (suc (arrival_cost g)) s.output (moved (arrived plan.flow slot s.control) s) (owed g s.control.calls) (Goes (here g s t [] end))
  once_run s t pc end j a Seq can sure uns further leads fit holds = absurd fit
  once_run s t pc end j a (To u) can sure uns further leads fit holds =
      pay g (suc (arrival_cost g)) s.output (Goes (at_place g s (point u Seq) s.control.target)) (owed g s.control.calls) 0 (here g s t [] end) (omega arith) (lead_to g s t end (point u Seq) s.control.target leads fit tt)
  once_run s t pc end j a (Dyn b) can sure uns further leads fit holds = lead_further g s t end (further_label pc) (Dyn b) leads (further (and-true (can_arrive j a) _ can (and-true (not (always_arrives j a)) (not (is_selected plan (Dyn b))) (ap not sure) (ap not uns)))) fit holds
  once_run s t pc end j a (CallTo u back) can sure uns further leads fit holds = let no : ⊥ = cc in absurd no
  once_run s t pc end j a (CallDyn back) can sure uns further leads fit holds = let no : ⊥ = cc in absurd no
  once_run s t pc end j a Ret can sure uns further leads fit holds = lead_further g s t end (further_label pc) Ret leads (further (and-true (can_arrive j a) _ can (and-true (not (always_arrives j a)) (not (is_selected plan Ret)) (ap not sure) (ap not uns)))) fit holds

  pub jump_ways_run : (s : State) (t : Stand g s) (pc : ℕ) (delayed : Bool) (j a : Mode) (jumps annuls : Bool) (stays jmp ann : Point) (slot : Slot) → HasFlags g delayed jumps annuls t.vars → ReadsIf a 2 annuls t.vars
      → possible j jumps ≡ true → possible a annuls ≡ true → LandsIn g t.q (way_course jumps annuls stays jmp ann slot) → HoldsTarget (way_of jumps annuls stays jmp ann stays).slot t.vars s.control.target
      → (jumps ≡ true → HoldsTarget slot t.vars s.control.target) → HasFurther t.q t.fn.found.index pc j a slot
      → Pays g (arrival_cost g + 2) s.output (moved (followed plan.flow (way_course jumps annuls stays jmp ann slot) s.control) s) (owed g s.control.calls)
      (Goes (here g s t (jump_ways plan t.q pc delayed j a stays jmp ann slot).stmts (jump_ways plan t.q pc delayed j a stays jmp ann slot).end))
  jump_ways_run s t pc delayed j a jumps annuls stays jmp ann slot flags reads ej ea lands holds holds-slot further =
      sure (always_arrives j a) refl
    where
      first-flag : (delayed : Bool) → HasFlags g delayed jumps annuls t.vars → t.vars (Temp 1) ≡ Some (flag jumps)
      first-flag true h = h.0
      first-flag false h = h.0

      Jumps : Coded → Type 0
      Jumps c = Pays g (arrival_cost g + 2) s.output (moved (followed plan.flow (way_course jumps annuls stays jmp ann slot) s.control) s) (owed g s.control.calls) (Goes (here g s t c.stmts c.end))

      by_ways : always_arrives j a ≡ false → (can_arrive j a && is_selected plan slot) ≡ false → Pays g (arrival_cost g + 2) s.output (moved (followed plan.flow (way_course jumps annuls stays jmp ann slot) s.control) s) (owed g s.control.calls)
          (Goes (here g s t [] (ways j a stays jmp ann (arrival_point pc slot))))
      by_ways unsure uns = go jumps annuls ej ea lands holds holds-slot (ways-lead g s t j a jumps annuls stays jmp ann (arrival_point pc slot) ej ea (reads-if j 1 jumps t.vars (first-flag delayed flags)) reads)
        where
          on : (p : Point) → LeadsBy g s t (ways j a stays jmp ann (arrival_point pc slot)) p → Body code t.q p → HoldsTarget p.slot t.vars s.control.target
              → Pays g (arrival_cost g + 2) s.output (Goes (at_place g s p s.control.target)) (owed g s.control.calls) (Goes (here g s t [] (ways j a stays jmp ann (arrival_point pc slot))))
          on p leads inside h =
              pay g (arrival_cost g + 2) s.output (Goes (at_place g s p s.control.target)) (owed g s.control.calls) 0 (here g s t [] (ways j a stays jmp ann (arrival_point pc slot))) (omega arith)
              (lead_to g s t (ways j a stays jmp ann (arrival_point pc slot)) p s.control.target leads inside h)

          go : (jumps annuls : Bool) → possible j jumps ≡ true → possible a annuls ≡ true → LandsIn g t.q (way_course jumps annuls stays jmp ann slot) → HoldsTarget (way_of jumps annuls stays jmp ann stays).slot t.vars s.control.target
              → (jumps ≡ true → HoldsTarget slot t.vars s.control.target) → LeadsBy g s t (ways j a stays jmp ann (arrival_point pc slot)) (way_of jumps annuls stays jmp ann (arrival_point pc slot))
              → Pays g (arrival_cost g + 2) s.output (moved (followed plan.flow (way_course jumps annuls stays jmp ann slot) s.control) s) (owed g s.control.calls) (Goes (here g s t [] (ways j a stays jmp ann (arrival_point pc slot))))
          go false false e f lands' h hs leads = on stays leads lands' h
          go true false e f lands' h hs leads = on jmp leads lands' h
          go false true e f lands' h hs leads = on ann leads lands' h
          go true true e f lands' h hs leads =
              let can = can-arrive j a e f in
              let uns' : is_selected plan slot ≡ false = ap (λ b. b && is_selected plan slot) (sym can) ∙ uns in
              pay_more g (suc (arrival_cost g)) (arrival_cost g + 2) s.output (moved (arrived plan.flow slot s.control) s) (owed g s.control.calls) (here g s t [] (ways j a stays jmp ann (arrival_point pc slot))) (omega arith)
              (once_run s t pc (ways j a stays jmp ann (arrival_point pc slot)) j a slot can unsure uns' further leads lands' (hs refl))

      chosen : always_arrives j a ≡ false → (b : Bool) → (can_arrive j a && is_selected plan slot) ≡ b → Pays g (arrival_cost g + 2) s.output (moved (followed plan.flow (way_course jumps annuls stays jmp ann slot) s.control) s) (owed g s.control.calls)
          (let c : Coded = if b then selected_code plan delayed j a stays jmp ann slot else record { stmts = []; end = ways j a stays jmp ann (arrival_point pc slot) } in Goes (here g s t c.stmts c.end))
      chosen unsure false e = by_ways unsure e
      chosen unsure true e = let both = parts (can_arrive j a) (is_selected plan slot) e in selected_run g s t delayed j a jumps annuls stays jmp ann slot flags ej ea both.0 both.1 lands holds holds-slot
        where
          parts : (x y : Bool) → (x && y) ≡ true → (x ≡ true) × (y ≡ true)
          parts true y e = (refl, e)
          parts false y e = let no : ⊥ = cc in absurd no

      sure : (b : Bool) → always_arrives j a ≡ b → Jumps (jump_ways plan t.q pc delayed j a stays jmp ann slot)
      sure true e =
          let done = always-done j a jumps annuls e ej ea in
          let is : way_course jumps annuls stays jmp ann slot ≡ Arriving slot = ap (λ x. way_course x annuls stays jmp ann slot) done.0 ∙ ap (λ y. way_course true y stays jmp ann slot) done.1 in
          let fit : Arrives g t.q slot = subst (LandsIn g t.q) is lands in
          subst (λ c. Pays g (arrival_cost g + 2) s.output (moved (followed plan.flow c s.control) s) (owed g s.control.calls) (Goes (here g s t (jump_ways plan t.q pc delayed j a stays jmp ann slot).stmts (jump_ways plan t.q pc delayed j a stays jmp ann slot).end))) (sym is)
          (subst (λ b. Pays g (arrival_cost g + 2) s.output (moved (arrived plan.flow slot s.control) s) (owed g s.control.calls)
          (let c : Coded = if b then arrival_code plan t.q slot else (if can_arrive j a && is_selected plan slot then selected_code plan delayed j a stays jmp ann slot else record { stmts = []; end = ways j a stays jmp ann (arrival_point pc slot) }) in Goes (here g s t c.stmts c.end))) (sym e)
          (pay_more g (arrival_cost g) (arrival_cost g + 2) s.output (moved (arrived plan.flow slot s.control) s) (owed g s.control.calls) (here g s t (arrival_code plan t.q slot).stmts (arrival_code plan t.q slot).end) (omega arith) (arrival_run g s t slot fit (holds-slot done.0))))
      sure false e =
          subst (λ b. Pays g (arrival_cost g + 2) s.output (moved (followed plan.flow (way_course jumps annuls stays jmp ann slot) s.control) s) (owed g s.control.calls)
          (let c : Coded = if b then arrival_code plan t.q slot else (if can_arrive j a && is_selected plan slot then selected_code plan delayed j a stays jmp ann slot else record { stmts = []; end = ways j a stays jmp ann (arrival_point pc slot) }) in Goes (here g s t c.stmts c.end))) (sym e)
          (chosen e (can_arrive j a && is_selected plan slot) refl)

  -- ---- a jump or an annul where none may stand

  abbrev pub IsTest : Bool → ℕ → Type 0
  IsTest false n = n ≡ 0
  IsTest true n = (k : ℕ) × (n ≡ suc k)

  pub flag-test : (b : Bool) → IsTest b (flag b)
  flag-test false = refl
  flag-test true = (0, refl)

  pub flags-test : (j a : Bool) → IsTest (j || a) (flag_number j a)
  flags-test false false = refl
  flags-test true false = (0, refl)
  flags-test false true = (1, refl)
  flags-test true true = (2, refl)

  pub couple_run : (s : State) (t : Stand g s) (x : MNext) (b : Bool) (e : CExpr) (n k : ℕ) (rest : List Stmt) (end : End) → s.control.point.pc < 2 ^ 32 → value (seen t.vars t.outer) e ≡ Some n → IsTest b n
      → (b ≡ true → x ≡ Ends s.output (Stop.Couple s.control.point.pc)) → (b ≡ false → Pays g k s.output x (owed g s.control.calls) (Goes (here g s t rest end)))
      → Pays g (suc k) s.output x (owed g s.control.calls) (Goes (here g s t (stop_if e couple_stop (Num s.control.point.pc) rest) end))
  couple_run s t x false e n k rest end lt is test stop go =
      let c = here g s t (stop_if e couple_stop (Num s.control.point.pc) rest) end in
      pay_one g k s.output x (owed g s.control.calls) c (Goes (here g s t rest end)) (output-is g s t) (Rattle.c_lang.proofs.StepsFrom.step-If program c e 0 _ rest end refl (is ∙ ap Some test)) (go refl)
  couple_run s t x true e n k rest end lt is test stop go =
      let y : MNext = Ends s.output (Stop.Couple s.control.point.pc) in
      subst (λ x. Pays g (suc k) s.output x (owed g s.control.calls) (Goes (here g s t (stop_if e couple_stop (Num s.control.point.pc) rest) end))) (sym (stop refl))
      (pay g (suc k) s.output y (owed g s.control.calls) 1 (here g s t (stop_if e couple_stop (Num s.control.point.pc) rest) end) (omega arith)
      (stops_run program s.output (Way g s.output y) (Matches (Related g) y) (way g s.output y) t.fn.found.index test.0 couple_stop s.control.point.pc e (Num s.control.point.pc) (Stop.Couple s.control.point.pc) rest end t.vars t.frames t.outer (output-is g s t)
      (is ∙ ap Some test.1) (value-Num (seen t.vars t.outer) s.control.point.pc) (ap (λ k. slice_get (named_stops k) couple_stop) (mod-eq_of_lt lt)) (refl, refl)))

  -- ---- a jump that was done has left its target

  -- the kept target behind an instruction
  abbrev pub target_after : Option ℕ → ℕ → ℕ
  target_after None old = old
  target_after (Some v) old = v

  abbrev pub stand-at : (s : State) (t : Stand g s) (target : ℕ) → Stand g (at_place g s s.control.point target)
  stand-at s t target = record { q = t.q; callers = t.callers; fn = t.fn; procedure = t.procedure; vars = t.vars; frames = t.frames; outer = t.outer; inv = inv-at g s t s.control.point target }

  -- the same place with `pt` set
  abbrev pub with_target : (s : State) (t : Stand g s) → ℕ → Stand g s
  with_target s t n = record {
    q = t.q;
    callers = t.callers;
    fn = t.fn;
    procedure = t.procedure;
    vars = with_var t.vars Pt n;
    frames = t.frames;
    outer = t.outer;
    inv = record {
      agree = t.inv.agree;
      ra_is = t.inv.ra_is;
      below = t.inv.below;
      depth = t.inv.depth;
      few = t.inv.few;
      fit = t.inv.fit;
      break_fits = t.inv.break_fits;
      world = t.inv.world;
    };
  }

  moved-same : (s : State) (target : ℕ) (move : Move) → moved move (at_place g s s.control.point target) ≡ moved move s
  moved-same s target (Ok c) = refl
  moved-same s target (Err stop) = refl

  -- the machine's control, from the state in which the target is kept
  pub kept-same : (s : State) (jump : Option ℕ) (c : Course) → moved (followed plan.flow c (kept jump s.control)) s ≡ moved (followed plan.flow c (at_place g s s.control.point (target_after jump s.control.target)).control) (at_place g s s.control.point (target_after jump s.control.target))
  kept-same s None c = refl
  kept-same s (Some v) c = sym (moved-same s v (followed plan.flow c (record s.control { target = v })))
