-- Calls and tail jumps enter a procedure, and each arrival is made.
use Rattle.std.proofs.Common.{◌≡◌, ◌≢◌, ℕ, suc, ◌+◌, ◌^◌, ◌<◌, ◌≤◌, Bool, true, false, List, [], ◌∷◌, ◌++◌, length, Some, refl, sym, ap, ◌∙◌, subst, arith, nat_eq}
use Rattle.std.specs.Prelude.{slice_get, not, if◌then◌else◌, Ok, Err, IsTrue}
use Rattle.std.proofs.lemmas.Bool.{eq-eqb, ne_eqb, eqb-false, lt-ltb}
use Rattle.std.proofs.Math.Nat.{mod-eq_of_lt}
use Rattle.lockstep.specs.Runs.{Goes, Ends}
use Rattle.lockstep.specs.Meets.{Matches}
use Rattle.rtl_core.specs.declared.machine.Machine.{Machine}
use Rattle.rtl_core.specs.declared.point.Slot.TheVariants.{Seq}
use Rattle.rtl_core.specs.declared.stop.Stop.{Stop}
use Rattle.rtl_core.specs.Arithmetic.{flag}
use Rattle.points.specs.declared.block.Member.{Member}
use Rattle.points.specs.declared.block.Member.TheVariants.{Call, Tail}
use Rattle.points.specs.Machine.{Setting}
use Rattle.points.specs.Courses.{point}
use Rattle.points.specs.Control.{most_calls, entered, entered_any}
use Rattle.points.specs.Bodies.{Code, code_of, Body}
use Rattle.points.specs.Running.{State, MNext, moved}
use Rattle.c_lang.specs.declared.tree.COp.TheVariants.{Add, Eq, Ne}
use Rattle.c_lang.specs.declared.tree.CExpr.{CExpr}
use Rattle.c_lang.specs.declared.tree.CExpr.TheVariants.{Num, Of, Bin}
use Rattle.c_lang.specs.declared.tree.End.{End}
use Rattle.c_lang.specs.declared.tree.End.TheVariants.{Return}
use Rattle.c_lang.specs.declared.tree.Program.{Program}
use Rattle.c_lang.specs.declared.tree.Stmt.{Stmt}
use Rattle.c_lang.specs.declared.tree.Stmt.TheVariants.{Set, Call as CallFunction}
use Rattle.c_lang.specs.declared.tree.Var.TheVariants.{Ra, Pt, Cell, Result, Depth}
use Rattle.c_lang.specs.Value.{Vars, value}
use Rattle.c_lang.specs.State.{Place, Frame, Outer, CNext, At, to_place}
use Rattle.c_lang.specs.State as C
use Rattle.c_lang.specs.Step.{Found, called, parameters, frame_of, function_from, most_frames, named_stops}
use Rattle.c_lang.proofs.ValueLaws.{value-Num, value-Of}
use Rattle.c_control.specs.Choice.{choose_c, leaf_of, levels}
use Rattle.c_control.specs.Frames.{StandsBehind, top_ra}
use Rattle.c_control.specs.Pieces.{undiscovered_stop, depth_stop, deeper_c, shallower_c, take_c, give_c, without, arguments_c, call_c, tail_c, leaf_c}
use Rattle.c_control.specs.Plans.{Plan, ra_of}
use Rattle.c_control.proofs.Steps.{more, st, seen, bin, op-Ne, step-Call, last, room, set_run, if_passed, stops_run}
use Rattle.c_control.proofs.Cells.{values_at, arguments-have, are-parameters}
use Rattle.c_control.proofs.Runs.{Passes, over, with_global, choose_run}
use Rattle.c_control.proofs.Frames.{Emission, CanEnter, HasBack, Related, Resumes, Way, arrived-at, at_point, below-count, declared-of, deep, way}
use Rattle.c_control.proofs.Resuming.{Finishes, call_resumes, tail_resumes, lower-world}
use Rattle.c_control.proofs.Returning.{world-same}
use Rattle.c_control.proofs.Arrivals.{Stand, Reaches, full-value, here, one-more, output-is}

module _ (g : Emission) where
  abbrev plan : Plan
  plan = g.plan

  abbrev setting : Setting
  setting = plan.flow.setting

  abbrev m : Machine
  m = setting.machine

  abbrev program : Program
  program = g.program

  abbrev code : Code
  code = code_of setting plan.flow.table

  -- ---- a function is called

  called-is : (c : C.State) (place : Place) (entry : ℕ) (ns : List ℕ) (f : Found) (vars : Vars) → function_from 0 program.functions entry ≡ Some f → parameters f.function ns ≡ Some vars → length c.below + 1 < most_frames
      → called program c place entry ns ≡ Goes (record { top = frame_of f vars; below = (to_place c place).top ∷ c.below; outer = c.outer })
  called-is c place entry ns f vars is params lt = rw (is, params, lt-ltb (length c.below + 1) most_frames lt) refl

  pub entered_run : (s : State) (t : Stand g s) (callee ra : ℕ) (member : Member) (back : CExpr) (rest : List Stmt) (end : End) → CanEnter g t.q callee → StandsBehind plan t.q callee member (At rest end) → ((outer : Outer) → value (seen t.vars outer) back ≡ Some ra)
      → ra ≡ top_ra setting (member ∷ s.control.calls) → (length s.control.calls < 65536 → Resumes g member callee (length s.control.calls) t.q (record { function = t.fn.found.index; place = At rest end; vars = t.vars }))
      → Reaches g s.output (moved (entered callee member s.control) s) 3 (Goes (here g s t (deeper_c (CallFunction callee (back ∷ arguments_c (plan.refs callee)) ∷ rest)) end))
  entered_run s t callee ra member back rest end enter stands value-is ra_is resumes = by (nat_eq (length s.control.calls) most_calls) refl
    where
      calls' : List Stmt
      calls' = CallFunction callee (back ∷ arguments_c (plan.refs callee)) ∷ rest

      Enters : Bool → Type 0
      Enters b =
          Reaches g s.output (moved (if b then Err Stop.CallDepth else Ok (record s.control { point = point callee Seq; calls = member ∷ s.control.calls })) s) 3
          (Goes (here g s t (deeper_c (CallFunction callee (back ∷ arguments_c (plan.refs callee)) ∷ rest)) end))

      by : (b : Bool) → nat_eq (length s.control.calls) most_calls ≡ b → Enters (nat_eq (length s.control.calls) most_calls)
      by true e =
          let x : MNext = Ends s.output Stop.CallDepth in
          let P = Way g s.output x in
          let Q = Matches (Related g) x in
          let c = here g s t (deeper_c (CallFunction callee (back ∷ arguments_c (plan.refs callee)) ∷ rest)) end in
          subst Enters (sym e)
          (room program s.output P Q (way g s.output x) (Goes c) 1 3 (omega arith)
          (stops_run program s.output P Q (way g s.output x) t.fn.found.index 0 depth_stop 0 (Bin Eq (Of Depth) (Num most_calls)) (Num 0) Stop.CallDepth _ end t.vars t.frames t.outer (output-is g s t)
          (full-value t.vars t.outer (length s.control.calls) t.inv.depth ∙ ap (λ b. Some (flag b)) e) (value-Num (seen t.vars t.outer) 0) refl (refl, refl)))
      by false e =
          let count = length s.control.calls in
          let differs : count ≢ 65536 = eqb-false count most_calls e in
          let under : count < 65536 = let w = t.inv.few in omega (arith, differs, w) in
          let new : State = record s { control = record s.control { point = point callee Seq; calls = member ∷ s.control.calls } } in
          let x : MNext = Goes new in
          let P = Way g s.output x in
          let Q = Matches (Related g) x in
          let higher = with_global t.outer Depth (suc count) in
          let f : Frame = record { function = t.fn.found.index; place = At rest end; vars = t.vars } in
          let params = are-parameters enter.fn.found.function ra s.cells (plan.refs callee) enter.fn.params in
          let c = st t.fn.found.index (CallFunction callee (back ∷ arguments_c (plan.refs callee)) ∷ rest) end t.vars t.frames higher in
          let lower : length t.frames + 1 < most_frames = let w = below-count g t.q t.callers s.control.calls t.frames s.cells t.inv.below in omega (arith, w, under) in
          let values = values_at s.cells (plan.refs callee) in
          let have = arguments-have (seen t.vars higher) s.cells (plan.refs callee) (λ c i. t.inv.agree c (enter.refs_in c i)) in
          let runs = step-Call program c callee (back ∷ arguments_c (plan.refs callee)) (ra ∷ values) rest end refl (more (value-is higher) have)
          ∙ called-is c (At rest end) callee (ra ∷ values) enter.fn.found params.vars enter.fn.is params.is lower
          ∙ ap (λ place. let top : Frame = record { function = enter.fn.found.index; place = place; vars = params.vars } in let u : C.State = record { top = top; below = f ∷ t.frames; outer = higher } in Goes u) enter.fn.first in
          subst Enters (sym e)
          (if_passed program s.output P Q (way g s.output x) 2 t.fn.found.index (Bin Eq (Of Depth) (Num most_calls)) _ (Set Depth (Bin Add (Of Depth) (Num 1)) ∷ CallFunction callee (back ∷ arguments_c (plan.refs callee)) ∷ rest) end t.vars t.frames t.outer
          (output-is g s t) (full-value t.vars t.outer count t.inv.depth ∙ ap (λ b. Some (flag b)) e)
          (set_run program s.output P Q (way g s.output x) 1 t.fn.found.index Depth (Bin Add (Of Depth) (Num 1)) (suc count) (CallFunction callee (back ∷ arguments_c (plan.refs callee)) ∷ rest) end t.vars t.frames t.outer (output-is g s t)
          (one-more t.vars t.outer count t.inv.depth under) (declared-of g t.q t.fn).depth
          (room program s.output P Q (way g s.output x) (Goes c) 0 1 (omega arith)
          (last program s.output P Q (way g s.output x) c (Goes (at_point g callee enter.fn.found.index (point callee Seq) params.vars (f ∷ t.frames) higher)) (output-is g s t) runs
          (arrived-at g new callee (t.q ∷ t.callers) enter.fn params.vars (f ∷ t.frames) higher enter.procedure
          (record {
            agree = params.agree;
            ra_is = params.ra_is ∙ ap Some ra_is;
            below = (
              record {
                waits = record {
                  fn = t.fn;
                  procedure = t.procedure;
                  function_is = refl;
                  stands = stands;
                  ra_is = t.inv.ra_is;
                  agree = λ c i ni. t.inv.agree c i;
                  mods_in = enter.mods_in;
                };
                resumes = resumes under;
              },
              t.inv.below,
            );
            depth = refl;
            few = omega (arith, under);
            fit = t.inv.fit;
            break_fits = t.inv.break_fits;
            world = world-same g s new t.outer higher refl refl refl t.inv.world (lower-world t.outer (suc count));
          })
          Body.first tt)))))

  -- ---- a call, a tail jump, and those of a computed target

  pub call_to : (s : State) (t : Stand g s) (callee back i : ℕ) (base rest : List Stmt) (end : End) → Finishes g t.q t.fn.found.index back base end → CanEnter g t.q callee → HasBack g (Call back) t.q → i ≤ deep g → Passes (t.vars Pt) base i rest
      → Reaches g s.output (moved (entered callee (Call back) s.control) s) 3 (Goes (here g s t (call_c plan back callee rest) end))
  call_to s t callee back i base rest end finish enter backs few passes =
      entered_run s t callee (ra_of setting back) (Call back) (Num (ra_of setting back)) (shallower_c (take_c (plan.mods callee) rest)) end enter (record { rest = rest; end = end; is = refl; near = backs false back refl; far = λ s e. backs true s e })
      (λ outer. value-Num (seen t.vars outer) (ra_of setting back)) refl
      (λ under. call_resumes g t.q callee back i (length s.control.calls) t.fn base rest end t.vars enter.mods_in finish passes few under backs)

  pub tail_to : (s : State) (t : Stand g s) (callee i : ℕ) (rest : List Stmt) → CanEnter g t.q callee → i ≤ deep g → Passes (t.vars Pt) [] i rest
      → Reaches g s.output (moved (entered callee Tail s.control) s) 3 (Goes (here g s t (tail_c plan t.q callee rest) Return))
  tail_to s t callee i rest enter few passes =
      entered_run s t callee (top_ra setting s.control.calls) Tail (Of Ra) (shallower_c (give_c (without (plan.mods t.q) (plan.mods callee)) rest)) Return enter (record { rest = rest; is = refl })
      (λ outer. value-Of (seen t.vars outer) Ra ∙ t.inv.ra_is) refl
      (λ under. tail_resumes g t.q callee i (length s.control.calls) t.fn rest t.vars passes few under)

  -- the pieces take what stands behind them afterwards, too
  take-joins : (cells : List ℕ) (rest later : List Stmt) → take_c cells rest ++ later ≡ take_c cells (rest ++ later)
  take-joins [] rest later = refl
  take-joins (c ∷ cells) rest later = ap (λ l. Set (Cell c) (Of (Result c)) ∷ l) (take-joins cells rest later)

  give-joins : (cells : List ℕ) (rest later : List Stmt) → give_c cells rest ++ later ≡ give_c cells (rest ++ later)
  give-joins [] rest later = refl
  give-joins (c ∷ cells) rest later = ap (λ l. Set (Result c) (Of (Cell c)) ∷ l) (give-joins cells rest later)

  pub call-joins : (back callee : ℕ) (rest later : List Stmt) → leaf_c (call_c plan back) callee rest ++ later ≡ leaf_c (call_c plan back) callee (rest ++ later)
  call-joins back callee rest later = rw (take-joins (plan.mods callee) rest later) refl

  pub tail-joins : (q callee : ℕ) (rest later : List Stmt) → leaf_c (tail_c plan q) callee rest ++ later ≡ leaf_c (tail_c plan q) callee (rest ++ later)
  tail-joins q callee rest later = rw (give-joins (without (plan.mods q) (plan.mods callee)) rest later) refl

  -- the procedure is chosen, if the target is one
  pub any_run : (s : State) (t : Stand g s) (member : Member) (enter : ℕ → List Stmt → List Stmt) (base : List Stmt) (end : End) → ((callee : ℕ) (rest later : List Stmt) → leaf_c enter callee rest ++ later ≡ leaf_c enter callee (rest ++ later))
      → t.vars Pt ≡ Some s.control.target → s.control.target < 2 ^ 32
      → (IsTrue (plan.flow.is_procedure s.control.target) → (i : ℕ) (behind : List Stmt) → i ≤ deep g → Passes (t.vars Pt) base i behind
      → Reaches g s.output (moved (entered s.control.target member s.control) s) 3 (Goes (here g s t (enter s.control.target behind) end)))
      → Reaches g s.output (moved (entered_any plan.flow member s.control) s) (deep g + deep g + 4) (Goes (here g s t (choose_c (leaf_c enter) plan.tree base) end))
  any_run s t member enter base end joins pt lt go = by (plan.flow.is_procedure s.control.target) refl
    where
      Chosen : Bool → Type 0
      Chosen b = Reaches g s.output (moved (if b then entered s.control.target member s.control else Err (Stop.Undiscovered s.control.target)) s) (deep g + deep g + 4) (Goes (here g s t (choose_c (leaf_c enter) plan.tree base) end))

      test : (callee : ℕ) (b : Bool) → nat_eq s.control.target callee ≡ b → value (seen t.vars t.outer) (Bin Ne (Of Pt) (Num callee)) ≡ Some (flag (not b))
      test callee b e =
          bin (seen t.vars t.outer) Ne (Of Pt) (Num callee) s.control.target callee (flag (not b)) (value-Of (seen t.vars t.outer) Pt ∙ pt) (value-Num (seen t.vars t.outer) callee) (op-Ne s.control.target callee ∙ ap (λ b. Some (flag (not b))) e)

      choose : (x : MNext) → ((i : ℕ) (behind : List Stmt) → i ≤ deep g → Passes (Some s.control.target) base i behind → Reaches g s.output x 4 (Goes (here g s t (leaf_c enter (leaf_of plan.tree s.control.target) behind) end)))
          → Reaches g s.output x (deep g + deep g + 4) (Goes (here g s t (choose_c (leaf_c enter) plan.tree base) end))
      choose x leaf =
          let few = g.planned.choice.few in
          room program s.output (Way g s.output x) (Matches (Related g) x) (way g s.output x) (Goes (here g s t (choose_c (leaf_c enter) plan.tree base) end)) (levels plan.tree + levels plan.tree + 4) (deep g + deep g + 4) (omega (arith, few))
          (choose_run program s.output (Way g s.output x) (Matches (Related g) x) (way g s.output x) base (leaf_c enter) joins plan.tree s.control.target 0 (deep g) 4 t.fn.found.index base end t.vars t.frames t.outer (output-is g s t) pt over (omega (arith, few)) leaf)

      by : (b : Bool) → plan.flow.is_procedure s.control.target ≡ b → Chosen (plan.flow.is_procedure s.control.target)
      by true e =
          let same = g.planned.choice.chosen s.control.target e in
          let x = moved (entered s.control.target member s.control) s in
          subst Chosen (sym e) (choose x (λ i behind few passes. subst (λ callee. Reaches g s.output x 4 (Goes (here g s t (leaf_c enter callee behind) end))) (sym same)
          (if_passed program s.output (Way g s.output x) (Matches (Related g) x) (way g s.output x) 3 t.fn.found.index (Bin Ne (Of Pt) (Num s.control.target)) _ (enter s.control.target behind) end t.vars t.frames t.outer (output-is g s t)
          (test s.control.target true (eq-eqb s.control.target s.control.target refl)) (go e i behind few (subst (λ o. Passes o base i behind) (sym pt) passes)))))
      by false e =
          let x : MNext = Ends s.output (Stop.Undiscovered s.control.target) in
          let leaf = leaf_of plan.tree s.control.target in
          let there = g.planned.choice.leaves s.control.target in
          let apart : s.control.target ≢ leaf = λ same. let no : ⊥ = let w = sym e ∙ ap plan.flow.is_procedure same ∙ there in cc in no in
          subst Chosen (sym e) (choose x (λ i behind few passes.
          room program s.output (Way g s.output x) (Matches (Related g) x) (way g s.output x) (Goes (here g s t (leaf_c enter leaf behind) end)) 1 4 (omega arith)
          (stops_run program s.output (Way g s.output x) (Matches (Related g) x) (way g s.output x) t.fn.found.index 0 undiscovered_stop s.control.target (Bin Ne (Of Pt) (Num leaf)) (Of Pt) (Stop.Undiscovered s.control.target) (enter leaf behind) end
          t.vars t.frames t.outer (output-is g s t) (test leaf false (ne_eqb s.control.target leaf apart)) (value-Of (seen t.vars t.outer) Pt ∙ pt)
          (ap (λ k. slice_get (named_stops k) undiscovered_stop) (mod-eq_of_lt lt)) (refl, refl))))
