-- Control goes on in the same function: by a goto, a table, and whatever an arrival does.
use Rattle.std.proofs.Common.{◌≡◌, ◌≢◌, ℕ, ◌+◌, ◌^◌, ◌<◌, ◌≤◌, Bool, true, false, ◌||◌, List, [], ◌∷◌, length, Some, None, refl, sym, ap, ◌∙◌, ⊎_elim, arith, nat_eq}
use Rattle.std.specs.Prelude.{slice_get, ◌==◌, if◌then◌else◌, Ok, Err, IsTrue}
use Rattle.std.specs.List.{Contains, list_any}
use Rattle.std.proofs.lemmas.Bool.{cases_eq, eq-eqb, ne_eqb, eqb-true}
use Rattle.std.proofs.lemmas.Map.Views.{Contains-from_any}
use Rattle.std.proofs.Math.Nat.{mod-eq_of_lt}
use Rattle.lockstep.specs.Runs.{Goes, Ends, Stops}
use Rattle.lockstep.specs.Meets.{Matches}
use Rattle.rtl_core.specs.declared.point.Point.{Point}
use Rattle.rtl_core.specs.declared.point.Slot.{Slot}
use Rattle.rtl_core.specs.declared.point.Slot.TheVariants.{Seq, To, Dyn, CallTo, CallDyn, Ret}
use Rattle.rtl_core.specs.declared.stop.Stop.{Stop}
use Rattle.points.specs.declared.block.Member.{Member}
use Rattle.points.specs.declared.block.Member.TheVariants.{Call, Tail}
use Rattle.points.specs.Kinds.{second}
use Rattle.points.specs.Machine.{Setting}
use Rattle.points.specs.Courses.{point}
use Rattle.points.specs.Control.{Control, Move, most_calls, entered, entered_any, jumped, returned as machine_returned, arrived, at}
use Rattle.points.specs.Bodies.{Code, code_of, Body}
use Rattle.points.specs.Running.{State, MNext, moved}
use Rattle.c_lang.specs.declared.tree.Case.{Case}
use Rattle.c_lang.specs.declared.tree.CExpr.{CExpr}
use Rattle.c_lang.specs.declared.tree.CExpr.TheVariants.{Of}
use Rattle.c_lang.specs.declared.tree.End.TheVariants.{Goto, Switch, Return}
use Rattle.c_lang.specs.declared.tree.Program.{Program}
use Rattle.c_lang.specs.declared.tree.Var.TheVariants.{Pt}
use Rattle.c_lang.specs.Value.{value}
use Rattle.c_lang.specs.State.{CNext}
use Rattle.c_lang.specs.State as C
use Rattle.c_lang.specs.Step.{step, case_of, named_stops}
use Rattle.c_lang.proofs.StepsFrom.{step-Goto}
use Rattle.c_lang.proofs.ValueLaws.{value-Of}
use Rattle.c_control.specs.Blocks.{block_c, arrival_code, jump_code, behind_call_by, table_cases, go_on_at}
use Rattle.c_control.specs.Frames.{HoldsTarget}
use Rattle.c_control.specs.Pieces.{undiscovered_stop, call_c, tail_c, return_c}
use Rattle.c_control.specs.Plans.{Plan}
use Rattle.c_control.proofs.Steps.{seen, step-Switch, step-Default, last}
use Rattle.c_control.proofs.Runs.{over}
use Rattle.c_control.proofs.Frames.{Emission, CanEnter, HasBack, Inv, Related, Way, arrived-at, at_point, block-at, deep, most, owed, owes, way}
use Rattle.c_control.proofs.Resuming.{finish_plain}
use Rattle.c_control.proofs.Returning.{world-same}
use Rattle.c_control.proofs.Arrivals.{Stand, Pays, Reaches, here, next_owed, output-is, pay, pay_more, return_run}
use Rattle.c_control.proofs.Entering.{any_run, call-joins, call_to, tail-joins, tail_to}

module _ (g : Emission) where
  abbrev plan : Plan
  plan = g.plan

  abbrev setting : Setting
  setting = plan.flow.setting

  abbrev program : Program
  program = g.program

  abbrev code : Code
  code = code_of setting plan.flow.table

  -- the state with control at a point, and this target kept
  abbrev pub at_place : State → Point → ℕ → State
  at_place s p target = record s { control = record s.control { point = p; target = target } }

  -- what holds of the frames does not look at point and target
  pub inv-at : (s : State) (t : Stand g s) (p : Point) (target : ℕ) → Inv g (at_place s p target) t.q t.callers t.vars t.frames t.outer
  inv-at s t p target = record {
    agree = t.inv.agree;
    ra_is = t.inv.ra_is;
    below = t.inv.below;
    depth = t.inv.depth;
    few = t.inv.few;
    fit = t.inv.fit;
    break_fits = t.inv.break_fits;
    world = world-same g s (at_place s p target) t.outer t.outer refl refl refl t.inv.world (record { windows = refl; words = refl; world = refl; output = refl });
  }

  -- one step that leads to the block of a point
  pub lands_run : (s : State) (t : Stand g s) (p : Point) (target : ℕ) (c : C.State) → c.outer.output ≡ s.output → step program c ≡ Goes (at_point g t.q t.fn.found.index p t.vars t.frames t.outer) → Body code t.q p → HoldsTarget p.slot t.vars target
      → Reaches g s.output (Goes (at_place s p target)) 0 (Goes c)
  lands_run s t p target c same is inside holds =
      let x : MNext = Goes (at_place s p target) in
      last program s.output (Way g s.output x) (Matches (Related g) x) (way g s.output x) c (Goes (at_point g t.q t.fn.found.index p t.vars t.frames t.outer)) same is
      (arrived-at g (at_place s p target) t.q t.callers t.fn t.vars t.frames t.outer t.procedure (inv-at s t p target) inside holds)

  pub goto_to : (s : State) (t : Stand g s) (p : Point) (target : ℕ) → Body code t.q p → HoldsTarget p.slot t.vars target → Reaches g s.output (Goes (at_place s p target)) 0 (Goes (here g s t [] (Goto p)))
  goto_to s t p target inside holds =
      lands_run s t p target (here g s t [] (Goto p)) (output-is g s t) (step-Goto program (here g s t [] (Goto p)) p (block_c plan t.q p) refl (block-at g t.q t.fn p inside)) inside holds

  pub switch_to : (s : State) (t : Stand g s) (p : Point) (target : ℕ) (e : CExpr) (cases : List Case) (n k : ℕ) (other : CExpr) → value (seen t.vars t.outer) e ≡ Some n → case_of cases n ≡ Some p → Body code t.q p → HoldsTarget p.slot t.vars target
      → Reaches g s.output (Goes (at_place s p target)) 0 (Goes (here g s t [] (Switch e cases k other)))
  switch_to s t p target e cases n k other is at inside holds =
      lands_run s t p target (here g s t [] (Switch e cases k other)) (output-is g s t)
      (step-Switch program (here g s t [] (Switch e cases k other)) e cases n k other p (block_c plan t.q p) refl is at (block-at g t.q t.fn p inside)) inside holds

  -- ---- tables

  pub table-case : (by x : ℕ) (ts : List ℕ) → list_any (λ u. u == x) ts ≡ true → case_of (table_cases by ts) (by + x) ≡ Some (point x Seq)
  table-case by x [] e = let no : ⊥ = cc in absurd no
  table-case by x (t ∷ ts) e =
      ⊎_elim
      (λ same. let sum : by + t ≡ by + x = omega (arith, same) in ap (λ q. if q then Some (point t Seq) else case_of (table_cases by ts) (by + x)) (eq-eqb (by + t) (by + x) sum) ∙ ap (λ k. Some (point k Seq)) same)
      (λ other. let sum : by + t ≢ by + x = omega (arith, other) in
      ap (λ q. if q then Some (point t Seq) else case_of (table_cases by ts) (by + x)) (ne_eqb (by + t) (by + x) sum) ∙ table-case by x ts (ap (λ b. b || list_any (λ u. u == x) ts) (sym (ne_eqb t x other)) ∙ e))
      (cases_eq t x)

  pub no-table-case : (by x : ℕ) (ts : List ℕ) → list_any (λ u. u == x) ts ≡ false → case_of (table_cases by ts) (by + x) ≡ None
  no-table-case by x [] e = refl
  no-table-case by x (t ∷ ts) e =
      ⊎_elim
      (λ same. let f : true ≡ false = ap (λ b. b || list_any (λ u. u == x) ts) (sym (eq-eqb t x same)) ∙ e in let no : ⊥ = cc in absurd no)
      (λ other. let sum : by + t ≢ by + x = omega (arith, other) in
      ap (λ q. if q then Some (point t Seq) else case_of (table_cases by ts) (by + x)) (ne_eqb (by + t) (by + x) sum) ∙ no-table-case by x ts (ap (λ b. b || list_any (λ u. u == x) ts) (sym (ne_eqb t x other)) ∙ e))
      (cases_eq t x)

  -- a target in the table, or none
  abbrev pub by_table : Bool → Control → Move
  by_table b c = if b then Ok (at c.target c) else Err (Stop.Undiscovered c.target)

  -- a switch over a table, whose cases may stand moved and behind others
  pub table_run : (s : State) (t : Stand g s) (by : ℕ) (e : CExpr) (cases : List Case) (ts : List ℕ) → value (seen t.vars t.outer) e ≡ Some (by + s.control.target) → case_of cases (by + s.control.target) ≡ case_of (table_cases by ts) (by + s.control.target)
      → t.vars Pt ≡ Some s.control.target → s.control.target < 2 ^ 32 → ((x : ℕ) → Contains ts x → Body code t.q (point x Seq)) → (b : Bool) → list_any (λ u. u == s.control.target) ts ≡ b
      → Reaches g s.output (moved (by_table b s.control) s) 0 (Goes (here g s t [] (Switch e cases undiscovered_stop (Of Pt))))
  table_run s t by e cases ts is same pt lt inside true on =
      switch_to s t (point s.control.target Seq) s.control.target e cases (by + s.control.target) undiscovered_stop (Of Pt) is (same ∙ table-case by s.control.target ts on)
      (inside s.control.target (Contains-from_any {eq = λ q u. nat_eq u q} (λ x y w. sym (eqb-true y x w)) s.control.target ts on)) tt
  table_run s t by e cases ts is same pt lt inside false off =
      let x : MNext = Ends s.output (Stop.Undiscovered s.control.target) in
      let c = here g s t [] (Switch e cases undiscovered_stop (Of Pt)) in
      last program s.output (Way g s.output x) (Matches (Related g) x) (way g s.output x) c (Ends s.output (Stops (Stop.Undiscovered s.control.target))) (output-is g s t)
      (step-Default program c e cases (by + s.control.target) undiscovered_stop s.control.target (Of Pt) (Stop.Undiscovered s.control.target) refl is (same ∙ no-table-case by s.control.target ts off) (value-Of (seen t.vars t.outer) Pt ∙ pt)
      (ap (λ k. slice_get (named_stops k) undiscovered_stop) (mod-eq_of_lt lt)) ∙ ap (λ o. Ends o (Stops (Stop.Undiscovered s.control.target))) (output-is g s t))
      (refl, refl)

  -- ---- what the body and the summaries give where an arrival can be made

  abbrev pub Arrives : ℕ → Slot → Type 0
  Arrives q Seq = ⊥
  Arrives q (To t) = Body code q (point t Seq)
  Arrives q (Dyn a) = ((x : ℕ) → Contains (plan.flow.table a) x → Body code q (point x Seq)) × ((x : ℕ) → plan.flow.table a ≡ [] → IsTrue (plan.flow.is_procedure x) → CanEnter g q x)
  Arrives q (CallTo t back) = HasBack g (Call back) q × CanEnter g q t
  Arrives q (CallDyn back) = HasBack g (Call back) q × ((x : ℕ) → IsTrue (plan.flow.is_procedure x) → CanEnter g q x)
  Arrives q Ret = Unit {0}

  -- ---- what may be owed behind

  pub entered-owed : (s : State) (t : ℕ) (member : Member) → next_owed g (moved (entered t member s.control) s) ≤ owes g member + owed g s.control.calls
  entered-owed s t member = by (nat_eq (length s.control.calls) most_calls)
    where
      by : (b : Bool) → next_owed g (moved (if b then Err Stop.CallDepth else Ok (record s.control { point = point t Seq; calls = member ∷ s.control.calls })) s) ≤ owes g member + owed g s.control.calls
      by true = omega arith
      by false = omega arith

  pub any-owed : (s : State) (member : Member) → next_owed g (moved (entered_any plan.flow member s.control) s) ≤ owes g member + owed g s.control.calls
  any-owed s member = by (plan.flow.is_procedure s.control.target)
    where
      by : (b : Bool) → next_owed g (moved (if b then entered s.control.target member s.control else Err (Stop.Undiscovered s.control.target)) s) ≤ owes g member + owed g s.control.calls
      by true = entered-owed s s.control.target member
      by false = omega arith

  pub table-owed : (s : State) (b : Bool) → next_owed g (moved (by_table b s.control) s) ≤ owed g s.control.calls
  table-owed s true = omega arith
  table-owed s false = omega arith

  -- what an arrival takes and puts aside
  abbrev pub arrival_cost : ℕ
  arrival_cost = most g + most g + deep g + deep g + deep g + 9

  jumped_run : (s : State) (t : Stand g s) (ts : List ℕ) → t.vars Pt ≡ Some s.control.target → s.control.target < 2 ^ 32 → ((x : ℕ) → Contains ts x → Body code t.q (point x Seq)) → ((x : ℕ) → ts ≡ [] → IsTrue (plan.flow.is_procedure x) → CanEnter g t.q x)
      → Pays g arrival_cost s.output (moved (jumped plan.flow ts s.control) s) (owed g s.control.calls) (Goes (here g s t (jump_code plan t.q ts).stmts (jump_code plan t.q ts).end))
  jumped_run s t [] pt lt inside enter =
      let x = moved (entered_any plan.flow Tail s.control) s in
      let owed' = any-owed s Tail in
      pay g arrival_cost s.output x (owed g s.control.calls) (deep g + deep g + 4) (here g s t (jump_code plan t.q []).stmts Return) (omega (arith, owed'))
      (any_run g s t Tail (tail_c plan t.q) [] Return (tail-joins g t.q) pt lt (λ is i behind few passes. tail_to g s t s.control.target i behind (enter s.control.target refl is) few passes))
  jumped_run s t (u ∷ us) pt lt inside enter =
      let b = list_any (λ x. x == s.control.target) (u ∷ us) in
      let owed' = table-owed s b in
      pay g arrival_cost s.output (moved (by_table b s.control) s) (owed g s.control.calls) 0 (here g s t [] (Switch (Of Pt) (table_cases 0 (u ∷ us)) undiscovered_stop (Of Pt))) (omega (arith, owed'))
      (table_run s t 0 (Of Pt) (table_cases 0 (u ∷ us)) (u ∷ us) (value-Of (seen t.vars t.outer) Pt ∙ pt ∙ ap Some zero-sum) refl pt lt inside b refl)
    where
      zero-sum : s.control.target ≡ 0 + s.control.target
      zero-sum = omega arith

  abbrev pub IsArrival : Slot → Type 0
  IsArrival Seq = ⊥
  IsArrival slot = Unit {0}

  pub arrival_run : (s : State) (t : Stand g s) (slot : Slot) → Arrives t.q slot → HoldsTarget slot t.vars s.control.target
      → Pays g arrival_cost s.output (moved (arrived plan.flow slot s.control) s) (owed g s.control.calls) (Goes (here g s t (arrival_code plan t.q slot).stmts (arrival_code plan t.q slot).end))
  arrival_run s t Seq fit holds = absurd fit
  arrival_run s t (To u) fit holds =
      pay g arrival_cost s.output (Goes (at_place s (point u Seq) s.control.target)) (owed g s.control.calls) 0 (here g s t [] (go_on_at u)) (omega arith) (goto_to s t (point u Seq) s.control.target fit tt)
  arrival_run s t (Dyn a) fit holds = jumped_run s t (plan.flow.table a) holds.0 holds.1 fit.0 fit.1
  arrival_run s t (CallTo u back) fit holds =
      let end = behind_call_by back (second setting back) in
      let owed' = entered-owed s u (Call back) in
      pay g arrival_cost s.output (moved (entered u (Call back) s.control) s) (owed g s.control.calls) 3 (here g s t (call_c plan back u []) end) (omega (arith, owed'))
      (call_to g s t u back 0 [] [] end (finish_plain g t.q back t.fn fit.0) fit.1 fit.0 (omega arith) over)
  arrival_run s t (CallDyn back) fit holds =
      let end = behind_call_by back (second setting back) in
      let owed' = any-owed s (Call back) in
      pay g arrival_cost s.output (moved (entered_any plan.flow (Call back) s.control) s) (owed g s.control.calls) (deep g + deep g + 4) (here g s t (arrival_code plan t.q (CallDyn back)).stmts end) (omega (arith, owed'))
      (any_run g s t (Call back) (call_c plan back) [] end (call-joins g back) holds.0 holds.1
      (λ is i behind few passes. call_to g s t s.control.target back i [] behind end (finish_plain g t.q back t.fn fit.0) (fit.1 s.control.target is) fit.0 few passes))
  arrival_run s t Ret fit holds =
      pay_more g (most g + most g + deep g + 9) arrival_cost s.output (moved (machine_returned setting s.control.calls s.control) s) (owed g s.control.calls) (here g s t (return_c (plan.mods t.q) []) Return) (omega arith) (return_run g s t holds.0 holds.1)
