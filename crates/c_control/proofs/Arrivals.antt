-- What each arrival does on both sides.
use Rattle.std.proofs.Common.{◌≡◌, ◌≢◌, ℕ, suc, ◌+◌, ◌-◌, ◌^◌, ◌%◌, ◌<◌, ◌≤◌, Bool, true, false, ◌||◌, List, [], ◌∷◌, length, Option, Some, None, inl, refl, sym, ap, ◌∙◌, subst, ⊎_elim, arith, nat_eq}
use Rattle.std.specs.Prelude.{slice_get, not, ◌==◌, if◌then◌else◌, Ok, Err}
use Rattle.std.proofs.lemmas.Bool.{eq-eqb, ne_eqb, eqb-true, eqb-false}
use Rattle.std.proofs.Math.Nat.{mod-eq_of_lt}
use Rattle.lockstep.specs.Runs.{Goes, Ends}
use Rattle.lockstep.specs.Meets.{Meets, Matches, credit_left}
use Rattle.lockstep.proofs.Stretches.{Advances}
use Rattle.rtl_core.specs.declared.machine.Machine.{Machine}
use Rattle.rtl_core.specs.declared.point.Slot.TheVariants.{Seq}
use Rattle.rtl_core.specs.declared.stop.Stop.{Stop}
use Rattle.rtl_core.specs.Arithmetic.{flag}
use Rattle.points.specs.Kinds.{second}
use Rattle.points.specs.Machine.{Setting}
use Rattle.points.specs.Courses.{point}
use Rattle.points.specs.Control.{Move, most_calls, returned as machine_returned, is_return_point, is_second}
use Rattle.points.specs.Bodies.{Code, code_of, Procedure}
use Rattle.points.specs.Running.{State, MNext, moved}
use Rattle.c_lang.specs.declared.tree.COp.TheVariants.{Add, Eq, Ne}
use Rattle.c_lang.specs.declared.tree.CExpr.TheVariants.{Num, Of, Bin}
use Rattle.c_lang.specs.declared.tree.End.{End}
use Rattle.c_lang.specs.declared.tree.End.TheVariants.{Return}
use Rattle.c_lang.specs.declared.tree.Program.{Program}
use Rattle.c_lang.specs.declared.tree.Stmt.{Stmt}
use Rattle.c_lang.specs.declared.tree.Stmt.TheVariants.{If}
use Rattle.c_lang.specs.declared.tree.Var.TheVariants.{Ra, Pt, Depth, ServeE}
use Rattle.c_lang.specs.Value.{Vars, value, word}
use Rattle.c_lang.specs.State.{Frame, Outer, CNext, At}
use Rattle.c_lang.specs.State as C
use Rattle.c_lang.specs.Step.{step, named_stops}
use Rattle.c_lang.proofs.ValueLaws.{value-Num, value-Of}
use Rattle.c_control.specs.Pieces.{mismatch_stop, stop_if, give_c, near_c, pad_c, far_c, second_c, return_c}
use Rattle.c_control.specs.Plans.{Plan, pad_by, pad_at, ra_of, no_return}
use Rattle.c_control.specs.Programs.{HasFunction}
use Rattle.c_control.proofs.Steps.{st, seen, bin, op-Add, op-Eq, step-Return, one, room, set_run, if_passed, if_taken, stops_run}
use Rattle.c_control.proofs.Cells.{In, values_at, arguments-have, AreParameters, are-parameters}
use Rattle.c_control.proofs.Addresses as Addresses
use Rattle.c_control.proofs.Addresses.{holds-made, holds-none, pad-small, pad-leads, pad-some}
use Rattle.c_control.proofs.Runs.{with_global, give_run}
use Rattle.c_control.proofs.Frames.{Emission, Inv, IsBack, Related, Way, bit, cost, declared-of, deep, most, owed, way}
use Rattle.c_control.proofs.Returning.{LastCall, NoCall, landed, last_call, owed-rest, unwind, world-same}

-- one call more
pub one-more : (vars : Vars) (outer : Outer) (depth : ℕ) → outer.globals Depth ≡ Some depth → depth < 65536 → value (seen vars outer) (Bin Add (Of Depth) (Num 1)) ≡ Some (suc depth)
one-more vars outer depth e lt =
    let sum : (depth + 1) % word ≡ suc depth = grind (arith, lt) in
    bin (seen vars outer) Add (Of Depth) (Num 1) depth 1 (suc depth) (value-Of (seen vars outer) Depth ∙ e) (value-Num (seen vars outer) 1) (op-Add depth 1 ∙ ap Some sum)

-- whether the call list is full
pub full-value : (vars : Vars) (outer : Outer) (depth : ℕ) → outer.globals Depth ≡ Some depth → value (seen vars outer) (Bin Eq (Of Depth) (Num most_calls)) ≡ Some (flag (depth == most_calls))
full-value vars outer depth e =
    bin (seen vars outer) Eq (Of Depth) (Num most_calls) depth most_calls (flag (depth == most_calls)) (value-Of (seen vars outer) Depth ∙ e) (value-Num (seen vars outer) most_calls) (op-Eq depth most_calls)

module _ (g : Emission) where
  abbrev plan : Plan
  plan = g.plan

  abbrev setting : Setting
  setting = plan.flow.setting

  abbrev m : Machine
  m = setting.machine

  abbrev program : Program
  program = g.program

  abbrev code : Code
  code = code_of setting plan.flow.table

  -- where the C stands in the function of a procedure, whose frames are right for a state of the machine
  pub record Stand (s : State) : Type 0 where
    pub q : ℕ
    pub callers : List ℕ
    pub fn : HasFunction plan program q
    pub procedure : Procedure code g.roots q
    pub vars : Vars
    pub frames : List Frame
    pub outer : Outer
    pub inv : Inv g s q callers vars frames outer

  -- the C at some statements there
  abbrev pub here : (s : State) → Stand s → List Stmt → End → C.State
  here s t stmts end = st t.fn.found.index stmts end t.vars t.frames t.outer

  pub output-is : (s : State) (t : Stand s) → t.outer.output ≡ s.output
  output-is s t = t.inv.world.output

  -- ---- a step with what is owed before and behind

  abbrev pub next_owed : MNext → ℕ
  next_owed x = credit_left (λ s. owed g s.control.calls) x

  abbrev pub Reaches : List ℕ → MNext → ℕ → CNext → Type 0
  Reaches old x k c = Advances (step program) (Way g old x) (Matches (Related g) x) k c

  -- within b steps and what is owed before, less what is owed behind
  abbrev pub Pays : ℕ → List ℕ → MNext → ℕ → CNext → Type 0
  Pays b old x d c = (next_owed x ≤ b + d) × Reaches old x (b + d - next_owed x) c

  pub pay : (b : ℕ) (old : List ℕ) (x : MNext) (d j : ℕ) (c : C.State) → j + next_owed x ≤ b + d → Reaches old x j (Goes c) → Pays b old x d (Goes c)
  pay b old x d j c le h =
      let le' : j ≤ b + d - next_owed x = omega (arith, le) in
      (omega (arith, le), room program old (Way g old x) (Matches (Related g) x) (way g old x) (Goes c) j (b + d - next_owed x) le' h)

  pub pay_more : (a b : ℕ) (old : List ℕ) (x : MNext) (d : ℕ) (c : C.State) → a ≤ b → Pays a old x d (Goes c) → Pays b old x d (Goes c)
  pay_more a b old x d c le h = let w = h.0 in pay b old x d (a + d - next_owed x) c (omega (arith, le, w)) h.1

  pub pay_one : (b : ℕ) (old : List ℕ) (x : MNext) (d : ℕ) (c : C.State) (z : CNext) → c.outer.output ≡ old → step program c ≡ z → Pays b old x d z → Pays (suc b) old x d (Goes c)
  pay_one b old x d c z same is h =
      let w = h.0 in
      pay (suc b) old x d (suc (b + d - next_owed x)) c (omega (arith, w)) (one program old (Way g old x) (Matches (Related g) x) (way g old x) c z (b + d - next_owed x) same is h.1)

  -- ---- a return

  module _ (s : State) (t : Stand s) (pt : t.vars Pt ≡ Some s.control.target) (lt : s.control.target < 2 ^ 32) where
    abbrev enough : ℕ
    enough = most g + most g + deep g + 9

    abbrev Returns : Move → Type 0
    Returns move = Pays (most g + most g + deep g + 9) s.output (moved move s) (owed g s.control.calls) (Goes (here s t (return_c (plan.mods t.q) []) Return))

    abbrev mismatch : MNext
    mismatch = Ends s.output (Stop.ReturnMismatch s.control.target)

    named : slice_get (named_stops (s.control.target % 2 ^ 32)) mismatch_stop ≡ Some (Stop.ReturnMismatch s.control.target)
    named = ap (λ k. slice_get (named_stops k) mismatch_stop) (mod-eq_of_lt lt)

    abbrev flagged : ℕ → Outer
    flagged n = with_global t.outer ServeE n

    abbrev rest : List Stmt
    rest = give_c (plan.mods t.q) []

    -- the flag is set
    set_flag : (x : MNext) (n k : ℕ) → value (seen t.vars t.outer) (Bin Ne (Of Pt) near_c) ≡ Some n
        → Reaches s.output x k (Goes (st t.fn.found.index (If (Of ServeE) second_c ∷ rest) Return t.vars t.frames (flagged n)))
        → Reaches s.output x (suc k) (Goes (here s t (return_c (plan.mods t.q) []) Return))
    set_flag x n k is go =
        set_run program s.output (Way g s.output x) (Matches (Related g) x) (way g s.output x) k t.fn.found.index ServeE (Bin Ne (Of Pt) near_c) n (If (Of ServeE) second_c ∷ rest) Return t.vars t.frames t.outer (output-is s t) is
        (declared-of g t.q t.fn).flag go

    -- results are handed back, and the frames return
    hand_back : (h : LastCall g s.control.calls) (n : ℕ) (e : Bool) → n ≡ bit g e → IsBack g h.back e s.control.target → (k : ℕ) → cost g + owed g s.control.calls ≤ k + owed g h.rest
        → Reaches s.output (Goes (landed g s h.rest)) (length (plan.mods t.q) + k) (Goes (st t.fn.found.index rest Return t.vars t.frames (flagged n)))
    hand_back h n e flag_is back k le =
        let x : MNext = Goes (landed g s h.rest) in
        give_run program s.output (Way g s.output x) (Matches (Related g) x) (way g s.output x) s.cells (plan.refs t.q) t.fn.found.function.temps (plan.mods t.q) [] k t.fn.found.index [] Return t.vars t.frames (flagged n) (output-is s t)
        (declared-of g t.q t.fn) (λ c i. t.inv.agree c (g.planned.closed.mods_in t.q c i)) (λ c i. Rattle.c_control.proofs.Cells.in-none c i)
        (λ new keeps has. (
          inl (keeps.output ∙ output-is s t),
          subst (Meets (step program) (Way g s.output x) (Matches (Related g) x) k) (sym (step-Return program (st t.fn.found.index [] Return t.vars t.frames new) refl))
              (unwind g s t.inv.fit t.inv.break_fits h.back h.rest e back t.callers s.control.calls t.frames h.opens t.q t.fn.found.index t.vars new t.inv.below
              (world-same g s s t.outer new refl refl refl t.inv.world (record { windows = keeps.windows; words = keeps.words; world = keeps.world; output = keeps.output }))
              (λ c i. has c (inl i)) (keeps.depth ∙ t.inv.depth) (keeps.flag_is ∙ ap Some flag_is) t.inv.few k le),
        ))

    none : NoCall g s.control.calls → Returns (machine_returned setting s.control.calls s.control)
    none h =
        let holds = holds-none in
        let ra_is = t.inv.ra_is ∙ ap Some h.ra in
        let ne : s.control.target ≢ 2 ^ 32 = omega (arith, lt) in
        let far = Addresses.not-near t.vars t.outer no_return no_return 0 s.control.target holds ra_is pt ∙ ap (λ b. Some (flag (not b))) (ne_eqb s.control.target (2 ^ 32) ne) in
        let o = flagged 1 in
        let P = Way g s.output mismatch in
        let Q = Matches (Related g) mismatch in
        subst Returns (sym (h.is s.control))
        (pay enough s.output mismatch (owed g s.control.calls) 3 (here s t (return_c (plan.mods t.q) []) Return) (omega arith)
        (set_flag mismatch 1 2 far
        (if_taken program s.output P Q (way g s.output mismatch) 1 t.fn.found.index 0 (Of ServeE) second_c rest Return t.vars t.frames o (output-is s t) (value-Of (seen t.vars o) ServeE)
        (stops_run program s.output P Q (way g s.output mismatch) t.fn.found.index 0 mismatch_stop s.control.target (Bin Eq pad_c (Num 0)) (Of Pt) (Stop.ReturnMismatch s.control.target) (stop_if (Bin Ne (Of Pt) far_c) mismatch_stop (Of Pt) rest) Return t.vars t.frames o (output-is s t)
        (Addresses.no-pad t.vars o no_return no_return 0 s.control.target holds ra_is pt) (value-Of (seen t.vars o) Pt ∙ pt) named (refl, refl)))))

    last' : LastCall g s.control.calls → Returns (machine_returned setting s.control.calls s.control)
    last' h = subst Returns (sym (h.is s.control)) (by (nat_eq s.control.target h.back) refl (second setting h.back) refl)
      where
        pad : ℕ
        pad = pad_at setting h.back

        small-pad : pad_at setting h.back < 2 ^ 32
        small-pad = pad-small h.back (second setting h.back)

        holds : Addresses.Holds (ra_of setting h.back) h.back (pad_at setting h.back)
        holds = holds-made h.back (pad_at setting h.back) h.small small-pad

        ra_is : t.vars Ra ≡ Some (ra_of setting h.back)
        ra_is = t.inv.ra_is ∙ ap Some h.ra

        near-is : (b : Bool) → nat_eq s.control.target h.back ≡ b → value (seen t.vars t.outer) (Bin Ne (Of Pt) near_c) ≡ Some (flag (not b))
        near-is b e = Addresses.not-near t.vars t.outer (ra_of setting h.back) h.back (pad_at setting h.back) s.control.target holds ra_is pt ∙ ap (λ b. Some (flag (not b))) e

        more-owed : owed g h.rest ≤ owed g s.control.calls
        more-owed = owed-rest g s.control.calls h.back h.rest h.opens

        Landing : Bool → Type 0
        Landing b = Returns (if b then Ok (record s.control { point = point s.control.target Seq; calls = h.rest }) else Err (Stop.ReturnMismatch s.control.target))

        by : (a : Bool) → nat_eq s.control.target h.back ≡ a → (o : Option ℕ) → second setting h.back ≡ o → Landing (is_return_point setting h.back s.control.target)
        by true e o is =
            let same : s.control.target ≡ h.back = eqb-true s.control.target h.back e in
            let yes' : is_return_point setting h.back s.control.target ≡ true = ap (λ b. b || is_second (second setting h.back) s.control.target) (eq-eqb h.back s.control.target (sym same)) in
            let x : MNext = Goes (landed g s h.rest) in
            let P = Way g s.output x in
            let Q = Matches (Related g) x in
            let k = cost g + owed g s.control.calls - owed g h.rest in
            let few = g.planned.closed.few t.q in
            let owed' = more-owed in
            let enough' : cost g + owed g s.control.calls ≤ k + owed g h.rest = omega (arith, owed') in
            let le : suc (suc (length (plan.mods t.q) + k)) + owed g h.rest ≤ most g + most g + deep g + 9 + owed g s.control.calls = omega (arith, owed', few) in
            subst Landing (sym yes')
            (pay (most g + most g + deep g + 9) s.output x (owed g s.control.calls) (suc (suc (length (plan.mods t.q) + k))) (here s t (return_c (plan.mods t.q) []) Return) le
            (set_flag x 0 (suc (length (plan.mods t.q) + k)) (near-is true e)
            (if_passed program s.output P Q (way g s.output x) (length (plan.mods t.q) + k) t.fn.found.index (Of ServeE) second_c rest Return t.vars t.frames (flagged 0) (output-is s t) (value-Of (seen t.vars (flagged 0)) ServeE)
            (hand_back h 0 false refl same k enough'))))
        by false e None is =
            let apart : h.back ≢ s.control.target = λ w. eqb-false s.control.target h.back e (sym w) in
            let no' : is_return_point setting h.back s.control.target ≡ false = ap (λ b. b || is_second (second setting h.back) s.control.target) (ne_eqb h.back s.control.target apart) ∙ ap (λ o. is_second o s.control.target) is in
            let P = Way g s.output mismatch in
            let Q = Matches (Related g) mismatch in
            let o = flagged 1 in
            let pad-is : pad_at setting h.back ≡ 0 = ap (pad_by h.back) is in
            subst Landing (sym no')
            (pay (most g + most g + deep g + 9) s.output mismatch (owed g s.control.calls) 3 (here s t (return_c (plan.mods t.q) []) Return) (omega arith)
            (set_flag mismatch 1 2 (near-is false e)
            (if_taken program s.output P Q (way g s.output mismatch) 1 t.fn.found.index 0 (Of ServeE) second_c rest Return t.vars t.frames o (output-is s t) (value-Of (seen t.vars o) ServeE)
            (stops_run program s.output P Q (way g s.output mismatch) t.fn.found.index 0 mismatch_stop s.control.target (Bin Eq pad_c (Num 0)) (Of Pt) (Stop.ReturnMismatch s.control.target) (stop_if (Bin Ne (Of Pt) far_c) mismatch_stop (Of Pt) rest) Return t.vars t.frames o (output-is s t)
            (Addresses.no-pad t.vars o (ra_of setting h.back) h.back (pad_at setting h.back) s.control.target holds ra_is pt ∙ ap (λ k. Some (flag (k == 0))) pad-is) (value-Of (seen t.vars o) Pt ∙ pt) named (refl, refl)))))
        by false e (Some far) is = far-or (nat_eq far s.control.target) refl
          where
            apart : h.back ≢ s.control.target
            apart = λ w. eqb-false s.control.target h.back e (sym w)

            point-is : is_return_point setting h.back s.control.target ≡ (far == s.control.target)
            point-is = ap (λ b. b || is_second (second setting h.back) s.control.target) (ne_eqb h.back s.control.target apart) ∙ ap (λ o. is_second o s.control.target) is

            far-fits : (far < 2 ^ 32) × (far ≢ h.back)
            far-fits = g.planned.seconds h.back far h.small is

            pad-is : pad_at setting h.back ≡ pad_by h.back (Some far)
            pad-is = ap (pad_by h.back) is

            has-pad : value (seen t.vars (flagged 1)) (Bin Eq pad_c (Num 0)) ≡ Some 0
            has-pad =
                Addresses.no-pad t.vars (flagged 1) (ra_of setting h.back) h.back (pad_at setting h.back) s.control.target holds ra_is pt
                ∙ ap (λ b. Some (flag b)) (ne_eqb (pad_at setting h.back) 0 (λ z. pad-some h.back far h.small far-fits.0 far-fits.1 (sym pad-is ∙ z)))

            far-is : (b : Bool) → nat_eq far s.control.target ≡ b → value (seen t.vars (flagged 1)) (Bin Ne (Of Pt) far_c) ≡ Some (flag (not b))
            far-is b f =
                Addresses.not-far t.vars (flagged 1) (ra_of setting h.back) h.back (pad_at setting h.back) s.control.target holds ra_is pt
                ∙ ap (λ k. Some (flag (not (s.control.target == k)))) (ap (λ k. (h.back + k) % 2 ^ 32) pad-is ∙ pad-leads h.back far h.small far-fits.0)
                ∙ ap (λ b. Some (flag (not b))) (turn b f)
              where
                turn : (b : Bool) → nat_eq far s.control.target ≡ b → nat_eq s.control.target far ≡ b
                turn true f = eq-eqb s.control.target far (sym (eqb-true far s.control.target f))
                turn false f = ne_eqb s.control.target far (λ w. eqb-false far s.control.target f (sym w))

            far-or : (b : Bool) → nat_eq far s.control.target ≡ b → Landing (is_return_point setting h.back s.control.target)
            far-or true f =
                let x : MNext = Goes (landed g s h.rest) in
                let P = Way g s.output x in
                let Q = Matches (Related g) x in
                let o = flagged 1 in
                let k = cost g + owed g s.control.calls - owed g h.rest in
                let few = g.planned.closed.few t.q in
                let owed' = more-owed in
                let enough' : cost g + owed g s.control.calls ≤ k + owed g h.rest = omega (arith, owed') in
                let n = length (plan.mods t.q) + k in
                let le : suc (suc (suc (suc n))) + owed g h.rest ≤ most g + most g + deep g + 9 + owed g s.control.calls = omega (arith, owed', few) in
                let back : IsBack g h.back true s.control.target = is ∙ ap Some (eqb-true far s.control.target f) in
                subst Landing (sym (point-is ∙ f))
                (pay (most g + most g + deep g + 9) s.output x (owed g s.control.calls) (suc (suc (suc (suc n)))) (here s t (return_c (plan.mods t.q) []) Return) le
                (set_flag x 1 (suc (suc (suc n))) (near-is false e)
                (if_taken program s.output P Q (way g s.output x) (suc (suc n)) t.fn.found.index 0 (Of ServeE) second_c rest Return t.vars t.frames o (output-is s t) (value-Of (seen t.vars o) ServeE)
                (if_passed program s.output P Q (way g s.output x) (suc n) t.fn.found.index (Bin Eq pad_c (Num 0)) _ (stop_if (Bin Ne (Of Pt) far_c) mismatch_stop (Of Pt) rest) Return t.vars t.frames o (output-is s t) has-pad
                (if_passed program s.output P Q (way g s.output x) n t.fn.found.index (Bin Ne (Of Pt) far_c) _ rest Return t.vars t.frames o (output-is s t) (far-is true f)
                (hand_back h 1 true refl back k enough'))))))
            far-or false f =
                let P = Way g s.output mismatch in
                let Q = Matches (Related g) mismatch in
                let o = flagged 1 in
                subst Landing (sym (point-is ∙ f))
                (pay (most g + most g + deep g + 9) s.output mismatch (owed g s.control.calls) 4 (here s t (return_c (plan.mods t.q) []) Return) (omega arith)
                (set_flag mismatch 1 3 (near-is false e)
                (if_taken program s.output P Q (way g s.output mismatch) 2 t.fn.found.index 0 (Of ServeE) second_c rest Return t.vars t.frames o (output-is s t) (value-Of (seen t.vars o) ServeE)
                (if_passed program s.output P Q (way g s.output mismatch) 1 t.fn.found.index (Bin Eq pad_c (Num 0)) _ (stop_if (Bin Ne (Of Pt) far_c) mismatch_stop (Of Pt) rest) Return t.vars t.frames o (output-is s t) has-pad
                (stops_run program s.output P Q (way g s.output mismatch) t.fn.found.index 0 mismatch_stop s.control.target (Bin Ne (Of Pt) far_c) (Of Pt) (Stop.ReturnMismatch s.control.target) rest Return t.vars t.frames o (output-is s t)
                (far-is false f) (value-Of (seen t.vars o) Pt ∙ pt) named (refl, refl))))))

    pub return_run : Returns (machine_returned setting s.control.calls s.control)
    return_run = ⊎_elim none last' (last_call g t.q t.callers s.control.calls t.frames s.cells t.inv.below)
