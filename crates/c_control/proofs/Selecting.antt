-- An arrival under a guard that goes on in the same function: a temporary chooses among all that can come.
use Rattle.std.proofs.Common.{◌≡◌, ◌≢◌, ℕ, suc, ◌+◌, ◌^◌, ◌%◌, ◌<◌, ◌≤◌, Bool, true, false, List, [], ◌∷◌, Option, Some, None, refl, sym, ap, ◌∙◌, subst, arith, nat_eq, append-nil}
use Rattle.std.specs.Prelude.{slice_get, if◌then◌else◌, ◌==◌}
use Rattle.std.specs.List.{Contains}
use Rattle.std.proofs.lemmas.Bool.{ne_eqb}
use Rattle.std.proofs.Math.Nat.{mod-eq_of_lt}
use Rattle.lockstep.specs.Runs.{Goes}
use Rattle.lockstep.specs.Meets.{Matches}
use Rattle.rtl_core.specs.declared.point.Point.{Point}
use Rattle.rtl_core.specs.declared.point.Slot.{Slot}
use Rattle.rtl_core.specs.declared.point.Slot.TheVariants.{Seq, To, Dyn, CallTo, CallDyn, Ret}
use Rattle.rtl_core.specs.Arithmetic.{flag}
use Rattle.points.specs.declared.block.Member.TheVariants.{Call}
use Rattle.points.specs.declared.block.Mode.{Mode}
use Rattle.points.specs.declared.block.Mode.TheVariants.{Never, Maybe, Always}
use Rattle.points.specs.Kinds.{second}
use Rattle.points.specs.Machine.{Setting}
use Rattle.points.specs.Courses.{point, possible}
use Rattle.points.specs.Control.{arrived, followed, entered, entered_any, jumped}
use Rattle.points.specs.Bodies.{Code, code_of, Body}
use Rattle.points.specs.Running.{State, MNext, moved}
use Rattle.c_lang.specs.declared.tree.Case.{Case}
use Rattle.c_lang.specs.declared.tree.COp.TheVariants.{Add, Eq}
use Rattle.c_lang.specs.declared.tree.CExpr.TheVariants.{Num, Of, Bin}
use Rattle.c_lang.specs.declared.tree.End.TheVariants.{Switch}
use Rattle.c_lang.specs.declared.tree.Program.{Program}
use Rattle.c_lang.specs.declared.tree.Stmt.TheVariants.{Set, If}
use Rattle.c_lang.specs.declared.tree.Var.TheVariants.{Pt, Temp, ServeE}
use Rattle.c_lang.specs.Value.{Vars, value, word}
use Rattle.c_lang.specs.State.{Frame, Outer, with_var, declared_in}
use Rattle.c_lang.specs.State as C
use Rattle.c_lang.specs.Step.{case_of}
use Rattle.c_lang.proofs.ValueLaws.{value-Num, value-Of}
use Rattle.c_control.specs.Blocks.{Code as Coded, block_c, case, is_filled, is_selected, selector_c, selected_behind, selected_c, selected_cases, other_cases, selected_code, back_cases, table_cases}
use Rattle.c_control.specs.Frames.{HoldsTarget}
use Rattle.c_control.specs.Pieces.{jumped_c, undiscovered_stop, call_c}
use Rattle.c_control.specs.Plans.{Plan}
use Rattle.c_control.specs.Programs.{HasFunction}
use Rattle.c_control.proofs.Steps.{st, seen, bin, op-Add, op-Eq, last, set_run, if_passed, step-Switch}
use Rattle.c_control.proofs.Runs.{over}
use Rattle.c_control.proofs.Frames.{Emission, HasBack, IsBack, Related, Way, at_point, bit, block-at, deep, declared-of, owed, way}
use Rattle.c_control.proofs.Resuming.{Finishes, LandsAt}
use Rattle.c_control.proofs.Arrivals.{Stand, Pays, here, output-is, pay, pay_more, pay_one}
use Rattle.c_control.proofs.Entering.{any_run, call-joins, call_to}
use Rattle.c_control.proofs.Landing.{Arrives, any-owed, arrival_cost, at_place, by_table, entered-owed, switch_to, table-owed, table_run}
use Rattle.c_control.proofs.Ways.{LandsIn, flag_number, flags-value, way_course, way_of}

module _ (g : Emission) where
  abbrev plan : Plan
  plan = g.plan

  abbrev setting : Setting
  setting = plan.flow.setting

  abbrev program : Program
  program = g.program

  abbrev code : Code
  code = code_of setting plan.flow.table

  -- the same place with a temporary set
  abbrev pub with_temp : (s : State) → Stand g s → ℕ → ℕ → Stand g s
  with_temp s t k n = record t {
    vars = with_var t.vars (Temp k) n;
    inv = record {
      agree = t.inv.agree;
      ra_is = t.inv.ra_is;
      below = t.inv.below;
      depth = t.inv.depth;
      few = t.inv.few;
      fit = t.inv.fit;
      break_fits = t.inv.break_fits;
      world = t.inv.world;
    };
  }

  -- a function declares the first four temporaries
  flag-declared : (s : State) (t : Stand g s) → declared_in (slice_get program.functions t.fn.found.index) (Temp 1) ≡ true
  flag-declared s t = let four = t.fn.room.flags in (declared-of g t.q t.fn).temporaries 1 (omega (arith, four))

  -- ---- the cases

  pub others-miss : (j a : Mode) (stays jmp ann : Point) (rest : List Case) (n : ℕ) → 3 ≤ n → case_of (other_cases j a stays jmp ann rest) n ≡ case_of rest n
  others-miss Never a stays jmp ann rest n le = refl
  others-miss Maybe Never stays jmp ann rest n le = let zero-no : 0 ≢ n = omega (arith, le) in ap (λ b. if b then Some stays else case_of rest n) (ne_eqb 0 n zero-no)
  others-miss Maybe Maybe stays jmp ann rest n le =
      let zero-no : 0 ≢ n = omega (arith, le) in
      let one-no : 1 ≢ n = omega (arith, le) in
      let two-no : 2 ≢ n = omega (arith, le) in
      ap (λ b. if b then Some stays else case_of (case 1 jmp ∷ case 2 ann ∷ rest) n) (ne_eqb 0 n zero-no) ∙ ap (λ b. if b then Some jmp else case_of (case 2 ann ∷ rest) n) (ne_eqb 1 n one-no)
      ∙ ap (λ b. if b then Some ann else case_of rest n) (ne_eqb 2 n two-no)
  others-miss Maybe Always stays jmp ann rest n le = let two-no : 2 ≢ n = omega (arith, le) in ap (λ b. if b then Some ann else case_of rest n) (ne_eqb 2 n two-no)
  others-miss Always Never stays jmp ann rest n le = refl
  others-miss Always Maybe stays jmp ann rest n le = let one-no : 1 ≢ n = omega (arith, le) in ap (λ b. if b then Some jmp else case_of rest n) (ne_eqb 1 n one-no)
  others-miss Always Always stays jmp ann rest n le = refl

  -- the case of a way that can come, and is not the arrival
  abbrev pub IsOther : Bool → Bool → Type 0
  IsOther true true = ⊥
  IsOther jumps annuls = Unit {0}

  pub other-hit : (j a : Mode) (jumps annuls : Bool) (stays jmp ann : Point) (rest : List Case) → Rattle.c_control.specs.Blocks.can_arrive j a ≡ true → possible j jumps ≡ true → possible a annuls ≡ true → IsOther jumps annuls
      → case_of (other_cases j a stays jmp ann rest) (flag_number jumps annuls) ≡ Some (way_of jumps annuls stays jmp ann ann)
  other-hit Never a jumps annuls stays jmp ann rest can e f o = let no : ⊥ = cc in absurd no
  other-hit Maybe Never jumps annuls stays jmp ann rest can e f o = let no : ⊥ = cc in absurd no
  other-hit Maybe Maybe false false stays jmp ann rest can e f o = refl
  other-hit Maybe Maybe true false stays jmp ann rest can e f o = refl
  other-hit Maybe Maybe false true stays jmp ann rest can e f o = refl
  other-hit Maybe Maybe true true stays jmp ann rest can e f o = absurd o
  other-hit Maybe Always false true stays jmp ann rest can e f o = refl
  other-hit Maybe Always jumps false stays jmp ann rest can e f o = let no : ⊥ = cc in absurd no
  other-hit Maybe Always true true stays jmp ann rest can e f o = absurd o
  other-hit Always Never jumps annuls stays jmp ann rest can e f o = let no : ⊥ = cc in absurd no
  other-hit Always Maybe true false stays jmp ann rest can e f o = refl
  other-hit Always Maybe false annuls stays jmp ann rest can e f o = let no : ⊥ = cc in absurd no
  other-hit Always Maybe true true stays jmp ann rest can e f o = absurd o
  other-hit Always Always true true stays jmp ann rest can e f o = absurd o
  other-hit Always Always false annuls stays jmp ann rest can e f o = let no : ⊥ = cc in absurd no
  other-hit Always Always true false stays jmp ann rest can e f o = let no : ⊥ = cc in absurd no

  -- the cases behind a call
  back-hit : (back : ℕ) (e : Bool) (pc : ℕ) → IsBack g back e pc → case_of (back_cases 4 back (second setting back)) (4 + bit g e) ≡ Some (point pc Seq)
  back-hit back false pc is = by (second setting back)
    where
      by : (o : Option ℕ) → case_of (back_cases 4 back o) 4 ≡ Some (point pc Seq)
      by None = ap (λ k. Some (point k Seq)) (sym is)
      by (Some s) = ap (λ k. Some (point k Seq)) (sym is)
  back-hit back true pc is = ap (λ o. case_of (back_cases 4 back o) 5) is

  -- what stands behind a call in such a block leads to the return point
  finish_selected : (q back : ℕ) (fn : HasFunction plan program q) (cases : List Case) → ((n : ℕ) → 3 ≤ n → case_of cases n ≡ case_of (back_cases 4 back (second setting back)) n) → HasBack g (Call back) q
      → Finishes g q fn.found.index back selected_behind (Switch jumped_c cases undiscovered_stop (Of Pt))
  finish_selected q back fn cases same backs = λ e pc is vars frames outer flag_is.
      let out = outer.output in
      let P = λ (c : C.State). c.outer.output ≡ out in
      let ix = fn.found.index in
      let Q = LandsAt g q ix pc vars frames outer in
      let end = Switch jumped_c cases undiscovered_stop (Of Pt) in
      let n = 4 + bit g e in
      let new = with_var vars (Temp 1) n in
      let c = st ix [] end new frames outer in
      let le : 3 ≤ n = omega arith in
      let four = fn.room.flags in
      set_run program out P Q (λ c w. w) 0 ix (Temp 1) (Bin Add (Num 4) (Of ServeE)) n [] end vars frames outer refl
      (bin (seen vars outer) Add (Num 4) (Of ServeE) 4 (bit g e) n (value-Num (seen vars outer) 4) (value-Of (seen vars outer) ServeE ∙ flag_is) (op-Add 4 (bit g e) ∙ small e))
      ((declared-of g q fn).temporaries 1 (omega (arith, four)))
      (last program out P Q (λ c w. w) c (Goes (at_point g q ix (point pc Seq) new frames outer)) refl
      (step-Switch program c jumped_c cases n undiscovered_stop (Of Pt) (point pc Seq) (block_c plan q (point pc Seq)) refl (value-Of (seen new outer) (Temp 1)) (same n le ∙ back-hit back e pc is) (block-at g q fn (point pc Seq) (backs e pc is)))
      (record { vars = new; is = refl; cells_are = λ c. refl; ra_is = refl }))
    where
      small : (e : Bool) → Some ((4 + bit g e) % word) ≡ Some (4 + bit g e)
      small true = refl
      small false = refl

  -- ---- the arrival, and what stands behind it

  pub selected_arrival : (s : State) (t : Stand g s) (slot : Slot) (cases : List Case) → ((n : ℕ) → 3 ≤ n → case_of cases n ≡ case_of (selected_cases plan slot) n) → is_selected plan slot ≡ true → Arrives g t.q slot
      → HoldsTarget slot t.vars s.control.target → Pays g (arrival_cost g) s.output (moved (arrived plan.flow slot s.control) s) (owed g s.control.calls) (Goes (here g s t (selected_c plan slot) (Switch jumped_c cases undiscovered_stop (Of Pt))))
  selected_arrival s t Seq cases same is fit holds = absurd fit
  selected_arrival s t (To u) cases same is fit holds = let no : ⊥ = cc in absurd no
  selected_arrival s t Ret cases same is fit holds = let no : ⊥ = cc in absurd no
  selected_arrival s t (CallTo u back) cases same is fit holds =
      let end = Switch jumped_c cases undiscovered_stop (Of Pt) in
      let owed' = entered-owed g s u (Call back) in
      pay g (arrival_cost g) s.output (moved (entered u (Call back) s.control) s) (owed g s.control.calls) 3 (here g s t (selected_c plan (CallTo u back)) end) (omega (arith, owed'))
      (call_to g s t u back 0 selected_behind selected_behind end (finish_selected t.q back t.fn cases same fit.0) fit.1 fit.0 (omega arith) over)
  selected_arrival s t (CallDyn back) cases same is fit holds =
      let end = Switch jumped_c cases undiscovered_stop (Of Pt) in
      let owed' = any-owed g s (Call back) in
      pay g (arrival_cost g) s.output (moved (entered_any plan.flow (Call back) s.control) s) (owed g s.control.calls) (deep g + deep g + 4) (here g s t (selected_c plan (CallDyn back)) end) (omega (arith, owed'))
      (any_run g s t (Call back) (call_c plan back) selected_behind end (call-joins g back) holds.0 holds.1
      (λ is i behind few passes. call_to g s t s.control.target back i selected_behind behind end (finish_selected t.q back t.fn cases same fit.0) (fit.1 s.control.target is) fit.0 few passes))
  selected_arrival s t (Dyn a) cases same is fit holds = tabled (plan.flow.table a) refl is
    where
      tabled : (ts : List ℕ) → plan.flow.table a ≡ ts → is_filled ts ≡ true
          → Pays g (arrival_cost g) s.output (moved (jumped plan.flow (plan.flow.table a) s.control) s) (owed g s.control.calls) (Goes (here g s t (Set (Temp 1) (Bin Add (Num 4) (Of Pt)) ∷ []) (Switch jumped_c cases undiscovered_stop (Of Pt))))
      tabled [] e some = let no : ⊥ = cc in absurd no
      tabled (u ∷ us) e some =
          let target = s.control.target in
          let b = Rattle.std.specs.List.list_any (λ x. x == target) (u ∷ us) in
          let x = moved (by_table g b s.control) s in
          let n = 4 + target in
          let lt = holds.1 in
          let le : 3 ≤ n = omega arith in
          let small : n < 2 ^ 64 = omega (arith, lt) in
          let end = Switch jumped_c cases undiscovered_stop (Of Pt) in
          let owed' = table-owed g s b in
          let env = seen t.vars t.outer in
          subst (λ l. Pays g (arrival_cost g) s.output (moved (jumped plan.flow l s.control) s) (owed g s.control.calls) (Goes (here g s t (Set (Temp 1) (Bin Add (Num 4) (Of Pt)) ∷ []) end))) (sym e)
          (pay g (arrival_cost g) s.output x (owed g s.control.calls) 1 (here g s t (Set (Temp 1) (Bin Add (Num 4) (Of Pt)) ∷ []) end) (omega (arith, owed'))
          (set_run program s.output (Way g s.output x) (Matches (Related g) x) (way g s.output x) 0 t.fn.found.index (Temp 1) (Bin Add (Num 4) (Of Pt)) n [] end t.vars t.frames t.outer (output-is g s t)
          (bin env Add (Num 4) (Of Pt) 4 target n (value-Num env 4) (value-Of env Pt ∙ holds.0) (op-Add 4 target ∙ ap Some (mod-eq_of_lt small))) (flag-declared s t)
          (table_run g s (with_temp s t 1 n) 4 jumped_c cases (u ∷ us) (value-Of (seen (with_var t.vars (Temp 1) n) t.outer) (Temp 1)) (same n le ∙ ap (λ l. case_of (table_cases 4 l) n) e) holds.0 lt
          (λ x i. fit.0 x (subst (λ l. Contains l x) (sym e) i)) b refl)))

  -- ---- the whole of it

  abbrev pub HasFlags : (delayed : Bool) → (jumps annuls : Bool) → Vars → Type 0
  HasFlags true jumps annuls vars = (vars (Temp 1) ≡ Some (flag jumps)) × (vars (Temp 2) ≡ Some (flag annuls))
  HasFlags false jumps annuls vars = (vars (Temp 1) ≡ Some (flag jumps)) × (annuls ≡ true)

  pub selector-value : (delayed jumps annuls : Bool) (vars : Vars) (outer : Outer) → HasFlags delayed jumps annuls vars → value (seen vars outer) (selector_c delayed) ≡ Some (flag_number jumps annuls)
  selector-value true jumps annuls vars outer h = flags-value (seen vars outer) jumps annuls h.0 h.1
  selector-value false jumps annuls vars outer h =
      bin (seen vars outer) Add jumped_c (Num 2) (flag jumps) 2 (flag_number jumps true) (value-Of (seen vars outer) (Temp 1) ∙ h.0) (value-Num (seen vars outer) 2) (op-Add (flag jumps) 2 ∙ sum jumps)
      ∙ ap (λ b. Some (flag_number jumps b)) (sym h.1)
    where
      sum : (b : Bool) → Some ((flag b + 2) % word) ≡ Some (flag_number b true)
      sum true = refl
      sum false = refl

  holds-temp : (slot : Slot) (vars : Vars) (target k n : ℕ) → HoldsTarget slot vars target → HoldsTarget slot (with_var vars (Temp k) n) target
  holds-temp Seq vars target k n h = tt
  holds-temp (To u) vars target k n h = tt
  holds-temp (CallTo u back) vars target k n h = tt
  holds-temp (Dyn a) vars target k n h = h
  holds-temp (CallDyn back) vars target k n h = h
  holds-temp Ret vars target k n h = h

  pub selected_run : (s : State) (t : Stand g s) (delayed : Bool) (j a : Mode) (jumps annuls : Bool) (stays jmp ann : Point) (slot : Slot) → HasFlags delayed jumps annuls t.vars → possible j jumps ≡ true → possible a annuls ≡ true
      → Rattle.c_control.specs.Blocks.can_arrive j a ≡ true → is_selected plan slot ≡ true → LandsIn g t.q (way_course jumps annuls stays jmp ann slot) → HoldsTarget (way_of jumps annuls stays jmp ann stays).slot t.vars s.control.target
      → (jumps ≡ true → HoldsTarget slot t.vars s.control.target)
      → Pays g (arrival_cost g + 2) s.output (moved (followed plan.flow (way_course jumps annuls stays jmp ann slot) s.control) s) (owed g s.control.calls)
      (Goes (here g s t (selected_code plan delayed j a stays jmp ann slot).stmts (selected_code plan delayed j a stays jmp ann slot).end))
  selected_run s t delayed j a jumps annuls stays jmp ann slot flags ej ea can selected lands holds holds-slot = by jumps annuls flags ej ea lands holds holds-slot
    where
      after_set : (x : MNext) (n : ℕ) → value (seen t.vars t.outer) (selector_c delayed) ≡ Some n
          → Pays g (arrival_cost g + 1) s.output x (owed g s.control.calls) (Goes (here g s (with_temp s t 1 n) (If (Bin Eq jumped_c (Num 3)) (selected_c plan slot) ∷ []) (Switch jumped_c (other_cases j a stays jmp ann (selected_cases plan slot)) undiscovered_stop (Of Pt))))
          → Pays g (arrival_cost g + 2) s.output x (owed g s.control.calls) (Goes (here g s t (selected_code plan delayed j a stays jmp ann slot).stmts (selected_code plan delayed j a stays jmp ann slot).end))
      after_set x n is go =
          let body = If (Bin Eq jumped_c (Num 3)) (selected_c plan slot) ∷ [] in
          let end = Switch jumped_c (other_cases j a stays jmp ann (selected_cases plan slot)) undiscovered_stop (Of Pt) in
          let c = here g s t (Set (Temp 1) (selector_c delayed) ∷ body) end in
          let le : suc (arrival_cost g + 1) ≤ arrival_cost g + 2 = omega arith in
          pay_more g (suc (arrival_cost g + 1)) (arrival_cost g + 2) s.output x (owed g s.control.calls) c le
          (pay_one g (arrival_cost g + 1) s.output x (owed g s.control.calls) c (Goes (here g s (with_temp s t 1 n) body end)) (output-is g s t)
          (Rattle.c_lang.proofs.StepsFrom.step-Set program c (Temp 1) (selector_c delayed) n body end refl is (flag-declared s t)) go)

      test : (n : ℕ) (b : Bool) → nat_eq n 3 ≡ b → value (seen (with_var t.vars (Temp 1) n) t.outer) (Bin Eq jumped_c (Num 3)) ≡ Some (flag b)
      test n b e =
          let env = seen (with_var t.vars (Temp 1) n) t.outer in
          bin env Eq jumped_c (Num 3) n 3 (flag b) (value-Of env (Temp 1)) (value-Num env 3) (op-Eq n 3 ∙ ap (λ b. Some (flag b)) e)

      other : (p : Point) (n : ℕ) → value (seen t.vars t.outer) (selector_c delayed) ≡ Some n → nat_eq n 3 ≡ false → case_of (other_cases j a stays jmp ann (selected_cases plan slot)) n ≡ Some p → Body code t.q p
          → HoldsTarget p.slot t.vars s.control.target → Pays g (arrival_cost g + 2) s.output (Goes (at_place g s p s.control.target)) (owed g s.control.calls)
          (Goes (here g s t (selected_code plan delayed j a stays jmp ann slot).stmts (selected_code plan delayed j a stays jmp ann slot).end))
      other p n is differs at inside holds' =
          let x : MNext = Goes (at_place g s p s.control.target) in
          let u = with_temp s t 1 n in
          let end = Switch jumped_c (other_cases j a stays jmp ann (selected_cases plan slot)) undiscovered_stop (Of Pt) in
          after_set x n is (pay g (arrival_cost g + 1) s.output x (owed g s.control.calls) 1 (here g s u (If (Bin Eq jumped_c (Num 3)) (selected_c plan slot) ∷ []) end) (omega arith)
          (if_passed program s.output (Way g s.output x) (Matches (Related g) x) (way g s.output x) 0 t.fn.found.index (Bin Eq jumped_c (Num 3)) (selected_c plan slot) [] end u.vars t.frames t.outer (output-is g s t) (test n false differs)
          (switch_to g s u p s.control.target jumped_c (other_cases j a stays jmp ann (selected_cases plan slot)) n undiscovered_stop (Of Pt) (value-Of (seen u.vars t.outer) (Temp 1)) at inside (holds-temp p.slot t.vars s.control.target 1 n holds'))))

      arrives : value (seen t.vars t.outer) (selector_c delayed) ≡ Some 3 → Arrives g t.q slot → HoldsTarget slot t.vars s.control.target → Pays g (arrival_cost g + 2) s.output (moved (arrived plan.flow slot s.control) s) (owed g s.control.calls)
          (Goes (here g s t (selected_code plan delayed j a stays jmp ann slot).stmts (selected_code plan delayed j a stays jmp ann slot).end))
      arrives is fit hs =
          let x = moved (arrived plan.flow slot s.control) s in
          let u = with_temp s t 1 3 in
          let end = Switch jumped_c (other_cases j a stays jmp ann (selected_cases plan slot)) undiscovered_stop (Of Pt) in
          let c = here g s u (If (Bin Eq jumped_c (Num 3)) (selected_c plan slot) ∷ []) end in
          let le : suc (arrival_cost g) ≤ arrival_cost g + 1 = omega arith in
          after_set x 3 is (pay_more g (suc (arrival_cost g)) (arrival_cost g + 1) s.output x (owed g s.control.calls) c le
          (pay_one g (arrival_cost g) s.output x (owed g s.control.calls) c (Goes (here g s u (selected_c plan slot) end)) (output-is g s t)
          (Rattle.c_lang.proofs.StepsFrom.step-If program c (Bin Eq jumped_c (Num 3)) 1 (selected_c plan slot) [] end refl (test 3 true refl)
          ∙ ap (λ l. Goes (here g s u l end)) (append-nil (selected_c plan slot)))
          (selected_arrival s u slot (other_cases j a stays jmp ann (selected_cases plan slot)) (λ n le. others-miss j a stays jmp ann (selected_cases plan slot) n le) selected fit (holds-temp slot t.vars s.control.target 1 3 hs))))

      by : (jumps annuls : Bool) → HasFlags delayed jumps annuls t.vars → possible j jumps ≡ true → possible a annuls ≡ true → LandsIn g t.q (way_course jumps annuls stays jmp ann slot) → HoldsTarget (way_of jumps annuls stays jmp ann stays).slot t.vars s.control.target
          → (jumps ≡ true → HoldsTarget slot t.vars s.control.target) → Pays g (arrival_cost g + 2) s.output (moved (followed plan.flow (way_course jumps annuls stays jmp ann slot) s.control) s) (owed g s.control.calls)
          (Goes (here g s t (selected_code plan delayed j a stays jmp ann slot).stmts (selected_code plan delayed j a stays jmp ann slot).end))
      by false false f e h lands' holds' hs = other stays 0 (selector-value delayed false false t.vars t.outer f) refl (other-hit j a false false stays jmp ann (selected_cases plan slot) can e h tt) lands' holds'
      by true false f e h lands' holds' hs = other jmp 1 (selector-value delayed true false t.vars t.outer f) refl (other-hit j a true false stays jmp ann (selected_cases plan slot) can e h tt) lands' holds'
      by false true f e h lands' holds' hs = other ann 2 (selector-value delayed false true t.vars t.outer f) refl (other-hit j a false true stays jmp ann (selected_cases plan slot) can e h tt) lands' holds'
      by true true f e h lands' holds' hs = arrives (selector-value delayed true true t.vars t.outer f) lands' (hs refl)
