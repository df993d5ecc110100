-- The service of an instruction, and its answer in the cells, before control.
use Rattle.std.proofs.Common.{append-nil, ◌≡◌, ◌≢◌, ℕ, suc, ◌+◌, ◌^◌, ◌%◌, ◌<◌, ◌≤◌, Bool, true, false, List, [], ◌∷◌, ◌++◌, length, Option, Some, None, inl, inr, refl, sym, ap, ◌∙◌, subst, ⊎_elim, arith, nat_eq}
use Rattle.std.specs.Prelude.{slice_set, slice_index, is_some, if◌then◌else◌}
use Rattle.std.specs.List.{Contains}
use Rattle.std.proofs.lemmas.List.{get_or-set_other, get_or-set_same}
use Rattle.std.proofs.lemmas.Bool.{eqb-true, eqb-false}
use Rattle.std.proofs.Math.Nat.{mod-eq_of_lt, pow-le-pow_right}
use Rattle.lockstep.specs.Runs.{Goes, Ends}
use Rattle.lockstep.specs.Meets.{Matches, next_out}
use Rattle.lockstep.proofs.Stretches.{narrow}
use Rattle.rtl_core.specs.declared.conv.Conv.{Conv}
use Rattle.rtl_core.specs.declared.conv.Numbers.{Numbers}
use Rattle.rtl_core.specs.declared.conv.ServiceShape.{ServiceShape}
use Rattle.rtl_core.specs.declared.machine.Machine.{Machine}
use Rattle.rtl_core.specs.declared.point.Point.{Point}
use Rattle.rtl_core.specs.declared.stop.Reply.{Reply}
use Rattle.rtl_core.specs.declared.stop.Reply.TheVariants.{Exit, Value, Error}
use Rattle.rtl_core.specs.Arithmetic.{flag}
use Rattle.rtl_core.specs.Contents.{Contents}
use Rattle.rtl_core.specs.Services.{World, Served, served, asked, flagged, numbers_of, result_of}
use Rattle.rtl_core.specs.SoundConv.{IsCellOf, IsCellIfAny, AreServiceCells, AreServiceNumbers}
use Rattle.rtl_core.specs.SoundTerms.{Fit, is_service}
use Rattle.rtl_core.specs.Transfers.{put_cell}
use Rattle.rtl_core.proofs.FitCells.{fit-set}
use Rattle.rtl_core.proofs.ServiceFits.{FitsReply, FitsServed, AreErrorWords, served-fits, result-fits}
use Rattle.points.specs.declared.block.Block.TheVariants.{Inst}
use Rattle.points.specs.Kinds.{block_at}
use Rattle.points.specs.Machine.{Setting}
use Rattle.points.specs.Bodies.{Code, code_of, Body}
use Rattle.points.specs.Running.{State, MNext, Did, world_of, controlled, control_behind, finished, service_due, with_answer}
use Rattle.points.specs.Summaries.{answer_cells, cell_if_any, service_cells, block_names, block_assigns}
use Rattle.c_lang.specs.declared.tree.CExpr.{CExpr}
use Rattle.c_lang.specs.declared.tree.CExpr.TheVariants.{Num, Of}
use Rattle.c_lang.specs.declared.tree.End.{End}
use Rattle.c_lang.specs.declared.tree.Program.{Program}
use Rattle.c_lang.specs.declared.tree.Stmt.{Stmt}
use Rattle.c_lang.specs.declared.tree.Stmt.TheVariants.{Set, If, Serve}
use Rattle.c_lang.specs.declared.tree.Var.TheVariants.{Pt, Cell, Temp, ServeR, ServeE}
use Rattle.c_lang.specs.Value.{Vars, value}
use Rattle.c_lang.specs.State.{Frame, Outer, CNext, At, with_var}
use Rattle.c_lang.specs.State as C
use Rattle.c_lang.specs.Step.{step, numbers_in}
use Rattle.c_lang.specs.Step as Does
use Rattle.c_lang.proofs.StepsFrom.{step-Set, step-If, step-Serve}
use Rattle.c_lang.proofs.ValueLaws.{value-Num, value-Of}
use Rattle.c_lower.specs.Cells.{cell_c, set_c}
use Rattle.c_control.specs.Plans.{Plan}
use Rattle.c_control.specs.Programs.{HasFunction, header_for}
use Rattle.c_control.specs.Services.{does, flag_c, answer_c, service_c, service_due_c, served_c}
use Rattle.c_control.proofs.Steps.{st, seen}
use Rattle.c_control.proofs.Cells.{In, cell-set}
use Rattle.c_control.proofs.Frames.{Emission, Inv, Related, Way, declared-of, keep-below, owed}
use Rattle.c_control.proofs.Returning.{world-same}
use Rattle.c_control.proofs.Arrivals.{Stand, Pays, here, output-is, pay_more, pay_one}
use Rattle.c_control.proofs.ServiceLaws.{exit-silent, moved-writes, service-assigned, service-named}

-- ---- what stands behind an answer

set-onto : (z : Option ℕ) (c : ℕ) (e : CExpr) (xs rest : List Stmt) → set_c z c e xs ++ rest ≡ set_c z c e (xs ++ rest)
set-onto None c e xs rest = refl
set-onto (Some y) c e xs rest = by (nat_eq c y)
  where
    by : (b : Bool) → (if b then xs else Set (Cell c) e ∷ xs) ++ rest ≡ (if b then xs ++ rest else Set (Cell c) e ∷ (xs ++ rest))
    by true = refl
    by false = refl

flag-onto : (z o : Option ℕ) (rest : List Stmt) → flag_c z o [] ++ rest ≡ flag_c z o rest
flag-onto z None rest = refl
flag-onto z (Some c) rest = set-onto z c (Of ServeE) [] rest

answer-onto : (z : Option ℕ) (shape : ServiceShape) (rest : List Stmt) → answer_c z shape [] ++ rest ≡ answer_c z shape rest
answer-onto z shape rest = set-onto z shape.result (Of ServeR) (flag_c z shape.error []) rest ∙ ap (set_c z shape.result (Of ServeR)) (flag-onto z shape.error rest)

-- one service of the same numbers
served-same : (n n' : Numbers) (a a' x x' y y' z z' : ℕ) (w w' : World) → n ≡ n' → a ≡ a' → x ≡ x' → y ≡ y' → z ≡ z' → w ≡ w' → served n a x y z w ≡ served n' a' x' y' z' w'
served-same n n' a a' x x' y y' z z' w w' e f h i j k = rw (e, f, h, i, j, k) refl

module _ (g : Emission) where
  abbrev plan : Plan
  plan = g.plan

  abbrev setting : Setting
  setting = plan.flow.setting

  abbrev m : Machine
  m = setting.machine

  abbrev conv : Conv
  conv = setting.conv

  abbrev program : Program
  program = g.program

  abbrev code : Code
  code = code_of setting plan.flow.table

  -- ---- widths and numbers

  word-fits : (c v : ℕ) → IsCellOf m 32 c → v < 2 ^ 32 → v < 2 ^ slice_index m.widths c
  word-fits c v h small = let P : ℕ → Type 0 = λ w. v < 2 ^ w in subst P (sym h.1) small

  cell-fits : (cells : List ℕ) (c : ℕ) → Fit m cells → IsCellOf m 32 c → slice_index cells c < 2 ^ 32
  cell-fits cells c fit h = let P : ℕ → Type 0 = λ w. slice_index cells c < 2 ^ w in subst P h.1 (fit.each c h.0)

  -- a flag fits any cell
  flag-fits : (c v : ℕ) → c < length m.widths → v < 2 → v < 2 ^ slice_index m.widths c
  flag-fits c v h small =
      let two : 0 < 2 = omega arith in
      let wide : 2 ^ 1 ≤ 2 ^ slice_index m.widths c = pow-le-pow_right two (g.planned.sound.machine.machine.widths.each c h).0 in
      omega (arith, small, wide)

  -- the header has the numbers of the conventions, and carries errors where there is a cell for them
  header-numbers : (shape : ServiceShape) → conv.service ≡ Some shape → numbers_in program.header ≡ numbers_of conv shape
  header-numbers shape e = ap numbers_in g.planned.header ∙ ap (λ o. numbers_in (header_for m conv o)) e

  header-carry : (shape : ServiceShape) → conv.service ≡ Some shape → program.header.carry ≡ is_some shape.error
  header-carry shape e = ap (λ h. h.carry) g.planned.header ∙ ap (λ o. (header_for m conv o).carry) e

  error-words : (shape : ServiceShape) → AreServiceNumbers shape → AreErrorWords (numbers_of conv shape)
  error-words shape fine = record { fault = fine.fault; descriptor = fine.descriptor; unknown = fine.unknown }

  -- ---- the output of a service is that behind the machine's step

  behind_written : (old new : List ℕ) (x : MNext) (b d : ℕ) (c : CNext) → new ≡ next_out (λ s. s.output) x → Pays g b new x d c → Pays g b old x d c
  behind_written old new x b d (Goes c) e h =
      (h.0, (turn c h.1.0, narrow (step program) (Way g new x) (Way g old x) (Matches (Related g) x) turn h.1.1))
    where
      turn : (c : C.State) → Way g new x c → Way g old x c
      turn c (inl w) = inr (w ∙ e)
      turn c (inr w) = inr w
  behind_written old new x b d (Ends out r) e h = h

  -- ---- one cell

  -- the machine with a value in a cell
  abbrev with_cells : State → List ℕ → State
  with_cells s cells = record s { cells = cells }

  module _ (q : ℕ) (callers : List ℕ) (fn : HasFunction plan program q) (frames : List Frame) (outer : Outer) where
    -- a cell is read as its value, the zero cell as 0
    read-cell : (s : State) (vars : Vars) (c : ℕ) → Inv g s q callers vars frames outer → (m.zero ≢ Some c → In c (plan.refs q)) → value (seen vars outer) (cell_c m.zero c) ≡ Some (slice_index s.cells c)
    read-cell s vars c inv named = by m.zero refl
      where
        at : (z : ℕ) → m.zero ≡ Some z → (b : Bool) → nat_eq c z ≡ b → value (seen vars outer) (if b then Num 0 else Of (Cell c)) ≡ Some (slice_index s.cells c)
        at z o true e = value-Num (seen vars outer) 0 ∙ ap Some (sym (ap (λ k. slice_index s.cells k) (eqb-true c z e) ∙ inv.fit.zeroed z o))
        at z o false e = value-Of (seen vars outer) (Cell c) ∙ inv.agree c (named (λ w. let same : z ≡ c = cc in eqb-false c z e (sym same)))

        by : (o : Option ℕ) → m.zero ≡ o → value (seen vars outer) (cell_c o c) ≡ Some (slice_index s.cells c)
        by None o = value-Of (seen vars outer) (Cell c) ∙ inv.agree c (named (λ w. let no : ⊥ = cc in no))
        by (Some z) o = at z o (nat_eq c z) refl

    inv-set : (s : State) (vars : Vars) (c v : ℕ) → Inv g s q callers vars frames outer → c < length m.widths → v < 2 ^ slice_index m.widths c → ((z : ℕ) → m.zero ≡ Some z → c ≢ z) → In c (plan.mods q)
        → Inv g (with_cells s (slice_set s.cells c v)) q callers (with_var vars (Cell c) v) frames outer
    inv-set s vars c v inv h small ne handed =
        let within : c < length s.cells = omega (arith, h, inv.fit.count) in
        let new = slice_set s.cells c v in
        record {
          agree = λ d i.
              ⊎_elim (λ w. w.0 ∙ ap Some (sym (ap (λ k. slice_index new k) w.1 ∙ get_or-set_same s.cells c v 0 within))) (λ w. w.0 ∙ inv.agree d i ∙ ap Some (sym (get_or-set_other s.cells c d v 0 w.1)))
              (cell-set vars c v d);
          ra_is = inv.ra_is;
          below = keep-below g q callers s.control.calls frames s.cells new (λ d out. get_or-set_other s.cells c d v 0 (λ w. out (subst (λ k. In k (plan.mods q)) (sym w) handed))) inv.below;
          depth = inv.depth;
          few = inv.few;
          fit = fit-set m s.cells c v h small ne inv.fit;
          break_fits = inv.break_fits;
          world = world-same g s (with_cells s new) outer outer refl refl refl inv.world (record { windows = refl; words = refl; world = refl; output = refl });
        }

    -- what goes on from other variables, with these cells
    abbrev Then : (s : State) (vars : Vars) → List ℕ → ℕ → MNext → ℕ → List Stmt → End → Type 0
    Then s vars cells b x d rest end = (new : Vars) → Inv g (with_cells s cells) q callers new frames outer → ((j : ℕ) → new (Temp j) ≡ vars (Temp j)) → new Pt ≡ vars Pt → Pays g b s.output x d (Goes (st fn.found.index rest end new frames outer))

    -- a value into a cell, or nothing where it is the zero cell
    put_run : (s : State) (vars : Vars) (c v b : ℕ) (e : CExpr) (x : MNext) (d : ℕ) (rest : List Stmt) (end : End) → Inv g s q callers vars frames outer → value (seen vars outer) e ≡ Some v → c < length m.widths → v < 2 ^ slice_index m.widths c
        → (m.zero ≢ Some c → In c (plan.mods q)) → Then s vars (put_cell m.zero c v s.cells) b x d rest end → Pays g (suc b) s.output x d (Goes (st fn.found.index (set_c m.zero c e rest) end vars frames outer))
    put_run s vars c v b e x d rest end inv is h small assigned go = by m.zero refl go
      where
        set : ((z : ℕ) → m.zero ≡ Some z → c ≢ z) → In c (plan.mods q) → Then s vars (slice_set s.cells c v) b x d rest end → Pays g (suc b) s.output x d (Goes (st fn.found.index (Set (Cell c) e ∷ rest) end vars frames outer))
        set ne handed go =
            let from = st fn.found.index (Set (Cell c) e ∷ rest) end vars frames outer in
            pay_one g b s.output x d from (Goes (st fn.found.index rest end (with_var vars (Cell c) v) frames outer)) inv.world.output
            (step-Set program from (Cell c) e v rest end refl is ((declared-of g q fn).cells c (g.planned.closed.mods_in q c handed)))
            (go (with_var vars (Cell c) v) (inv-set s vars c v inv h small ne handed) (λ j. refl) refl)

        at : (z : ℕ) → m.zero ≡ Some z → (b' : Bool) → nat_eq c z ≡ b' → Then s vars (if b' then s.cells else slice_set s.cells c v) b x d rest end
            → Pays g (suc b) s.output x d (Goes (st fn.found.index (if b' then rest else Set (Cell c) e ∷ rest) end vars frames outer))
        at z o true w go = pay_more g b (suc b) s.output x d (st fn.found.index rest end vars frames outer) (omega arith) (go vars inv (λ j. refl) refl)
        at z o false w go =
            let apart : (y : ℕ) → m.zero ≡ Some y → c ≢ y = λ y f k. (let same : z ≡ y = cc in eqb-false c z w (k ∙ sym same)) in
            set apart (assigned (λ f. apart c f refl)) go

        by : (o : Option ℕ) → m.zero ≡ o → Then s vars (put_cell o c v s.cells) b x d rest end → Pays g (suc b) s.output x d (Goes (st fn.found.index (set_c o c e rest) end vars frames outer))
        by None o go = set (λ y f. let no : ⊥ = cc in absurd no) (assigned (λ f. let no : ⊥ = cc in no)) go
        by (Some z) o go = at z o (nat_eq c z) refl go

    -- ---- an answer into its cells

    answer_run : (shape : ServiceShape) → AreServiceCells m shape → ((c : ℕ) → Contains (answer_cells (Some shape)) c → m.zero ≢ Some c → In c (plan.mods q)) → (s : State) (vars : Vars) (result error b : ℕ) (x : MNext) (d : ℕ) (rest : List Stmt) (end : End)
        → Inv g s q callers vars frames outer → outer.globals ServeR ≡ Some result → outer.globals ServeE ≡ Some error → result < 2 ^ 32 → error < 2
        → Then s vars (flagged m.zero shape.error error (put_cell m.zero shape.result result s.cells)) b x d rest end → Pays g (suc (suc b)) s.output x d (Goes (st fn.found.index (answer_c m.zero shape rest) end vars frames outer))
    answer_run shape fine assigned s vars result error b x d rest end inv is_r is_e small_r small_e go =
        put_run s vars shape.result result (suc b) (Of ServeR) x d (flag_c m.zero shape.error rest) end inv (value-Of (seen vars outer) ServeR ∙ is_r) fine.result.0 (word-fits shape.result result fine.result small_r)
        (assigned shape.result (0, omega arith, refl)) (λ new inv' temps pt. by shape.error fine.error (λ c f. assigned c (in-error shape.error c f)) new inv' temps pt go)
      where
        in-error : (o : Option ℕ) (c : ℕ) → o ≡ Some c → Contains (shape.result ∷ cell_if_any o) c
        in-error None c f = let no : ⊥ = cc in absurd no
        in-error (Some k) c f = let same : k ≡ c = cc in (1, omega arith, same)

        by : (o : Option ℕ) → IsCellIfAny m 1 o → ((c : ℕ) → o ≡ Some c → m.zero ≢ Some c → In c (plan.mods q)) → (new : Vars) → Inv g (with_cells s (put_cell m.zero shape.result result s.cells)) q callers new frames outer → ((j : ℕ) → new (Temp j) ≡ vars (Temp j)) → new Pt ≡ vars Pt
            → Then s vars (flagged m.zero o error (put_cell m.zero shape.result result s.cells)) b x d rest end → Pays g (suc b) s.output x d (Goes (st fn.found.index (flag_c m.zero o rest) end new frames outer))
        by None ok assigned' new inv' temps pt go' = pay_more g b (suc b) s.output x d (st fn.found.index rest end new frames outer) (omega arith) (go' new inv' temps pt)
        by (Some c) ok assigned' new inv' temps pt go' =
            put_run (with_cells s (put_cell m.zero shape.result result s.cells)) new c error b (Of ServeE) x d rest end inv' (value-Of (seen new outer) ServeE ∙ is_e) ok.0 (flag-fits c error ok.0 small_e) (assigned' c refl)
            (λ last inv'' temps' pt'. go' last inv'' (λ j. temps' j ∙ temps j) (pt' ∙ pt))

  -- ---- the service of an instruction

  module _ (s : State) (t : Stand g s) (did : Did) (rest : List Stmt) (end : End) (k : ℕ) where
    abbrev ahead : ℕ
    ahead = owed g s.control.calls

    -- control goes on from whatever the service has made of the state
    abbrev pub Controls : Type 0
    Controls = (cells : List ℕ) (memory : Contents) (input output : List ℕ) (heap_end : ℕ) (vars : Vars) (outer : Outer)
        → let s' : State = record s { cells = cells; memory = memory; input = input; output = output; heap_end = heap_end } in
        Inv g s' t.q t.callers vars t.frames outer → ((j : ℕ) → vars (Temp j) ≡ t.vars (Temp j)) → vars Pt ≡ t.vars Pt → Pays g k s'.output (controlled plan.flow did s') ahead (Goes (st t.fn.found.index rest end vars t.frames outer))

    -- no service is due
    alone : Controls → Pays g k s.output (controlled plan.flow did s) ahead (Goes (here g s t rest end))
    alone go = go s.cells s.memory s.input s.output s.heap_end t.vars t.outer t.inv (λ j. refl) refl

    module _ (go : Controls) (shape : ServiceShape) (is_shape : conv.service ≡ Some shape) (named : (c : ℕ) → Contains (service_cells (Some shape)) c → m.zero ≢ Some c → In c (plan.refs t.q))
        (assigned : (c : ℕ) → Contains (answer_cells (Some shape)) c → m.zero ≢ Some c → In c (plan.mods t.q)) where
      abbrev fine : AreServiceCells m shape
      fine = g.planned.sound.fits.cells shape is_shape

      abbrev numbers : AreServiceNumbers shape
      numbers = g.planned.sound.conv.numbers shape is_shape

      abbrev done : Served
      done = asked conv shape s.cells (world_of s)

      fits-done : FitsServed done
      fits-done =
          served-fits (numbers_of conv shape) (error-words shape numbers) (world_of s) t.inv.break_fits (slice_index s.cells shape.number) (slice_index s.cells shape.arg_x) (slice_index s.cells shape.arg_y) (slice_index s.cells shape.arg_z)
          (cell-fits s.cells shape.arg_x t.inv.fit fine.arg_x) (cell-fits s.cells shape.arg_z t.inv.fit fine.arg_z)

      -- what all calls share behind `uq_serve`
      abbrev outer_behind : List ℕ → World → ℕ → ℕ → Outer
      outer_behind written world result error = record { globals = with_var (with_var t.outer.globals ServeR result) ServeE error; words = t.outer.words; world = world; output = t.outer.output ++ written }

      abbrev state_behind : List ℕ → World → List ℕ → State
      state_behind written world cells = record s { cells = cells; memory = world.memory; input = world.input; output = s.output ++ written; heap_end = world.heap_end }

      inv-behind : (written : List ℕ) (world : World) (result error : ℕ) → world.heap_end < 2 ^ 32 → Inv g (state_behind written world s.cells) t.q t.callers t.vars t.frames (outer_behind written world result error)
      inv-behind written world result error small = record {
        agree = t.inv.agree;
        ra_is = t.inv.ra_is;
        below = t.inv.below;
        depth = t.inv.depth;
        few = t.inv.few;
        fit = t.inv.fit;
        break_fits = small;
        world = record {
          count = t.inv.world.count;
          few = t.inv.world.few;
          words = t.inv.world.words;
          windows = t.inv.world.windows;
          world = refl;
          output = ap (λ o. o ++ written) (output-is g s t);
        };
      }

      -- an answer that is no exit is put into its cells, and control goes on
      going_on : (written : List ℕ) (world : World) (carried result error : ℕ) → carried ≡ result → result < 2 ^ 32 → error < 2 → world.heap_end < 2 ^ 32
          → Pays g (suc (suc k)) s.output (controlled plan.flow did (state_behind written world (flagged m.zero shape.error error (put_cell m.zero shape.result result s.cells)))) ahead
          (Goes (st t.fn.found.index (answer_c m.zero shape rest) end t.vars t.frames (outer_behind written world carried error)))
      going_on written world carried result error same small_r small_e small =
          let cells = flagged m.zero shape.error error (put_cell m.zero shape.result result s.cells) in
          let s' = state_behind written world cells in
          let outer = outer_behind written world carried error in
          let x = controlled plan.flow did s' in
          behind_written s.output (s.output ++ written) x (suc (suc k)) ahead (Goes (st t.fn.found.index (answer_c m.zero shape rest) end t.vars t.frames outer)) (sym (moved-writes (control_behind plan.flow did s.control) s'))
          (answer_run t.q t.callers t.fn t.frames outer shape fine assigned (state_behind written world s.cells) t.vars result error k x ahead rest end (inv-behind written world carried error small) (ap Some same) refl small_r small_e
          (λ new inv temps pt. go cells world.memory world.input (s.output ++ written) world.heap_end new outer inv temps pt))

      -- behind `uq_serve`: the exit, or on with its answer
      behind_serve : (reply : Reply) (written : List ℕ) (world : World) → FitsReply reply → world.heap_end < 2 ^ 32 → ((x : ℕ) → reply ≡ Exit x → written ≡ [])
          → (let made : Served = record { reply = reply; written = written; world = world } in
          Pays g (suc (suc k)) s.output (with_answer plan.flow did shape made s) ahead (Does.with_answer program (here g s t (service_c m.zero shape rest) end) (At (answer_c m.zero shape rest) end) made))
      behind_serve (Exit x) written world fits small silent = (omega arith, (output-is g s t ∙ sym (ap (λ w. s.output ++ w) (silent x refl) ∙ append-nil s.output), refl))
      behind_serve (Value n) written world fits small silent = going_on written world n n 0 refl fits (omega arith) small
      behind_serve (Error e) written world fits small silent =
          going_on written world (result_of program.header.carry (Error e)) (result_of (is_some shape.error) (Error e)) 1 (ap (λ b. result_of b (Error e)) (header-carry shape is_shape)) (result-fits (is_some shape.error) (Error e) fits) (omega arith) small

      -- `uq_serve` is asked what the machine asks
      serves : step program (here g s t (service_c m.zero shape rest) end) ≡ Does.with_answer program (here g s t (service_c m.zero shape rest) end) (At (answer_c m.zero shape rest) end) done
      serves =
          let from = here g s t (service_c m.zero shape rest) end in
          step-Serve program from (cell_c m.zero shape.number) (cell_c m.zero shape.arg_x) (cell_c m.zero shape.arg_y) (cell_c m.zero shape.arg_z)
          (slice_index s.cells shape.number) (slice_index s.cells shape.arg_x) (slice_index s.cells shape.arg_y) (slice_index s.cells shape.arg_z) (answer_c m.zero shape rest) end refl
          (read shape.number (0, omega arith, refl)) (read shape.arg_x (1, omega arith, refl)) (read shape.arg_y (2, omega arith, refl)) (read shape.arg_z (3, omega arith, refl))
          ∙ ap (Does.with_answer program from (At (answer_c m.zero shape rest) end))
          (served-same (numbers_in program.header) (numbers_of conv shape) _ _ _ _ _ _ _ _ t.outer.world (world_of s) (header-numbers shape is_shape) (whole shape.number fine.number) (whole shape.arg_x fine.arg_x) (whole shape.arg_y fine.arg_y) (whole shape.arg_z fine.arg_z) t.inv.world.world)
        where
          read : (c : ℕ) → Contains (service_cells (Some shape)) c → value (seen t.vars t.outer) (cell_c m.zero c) ≡ Some (slice_index s.cells c)
          read c i = read-cell t.q t.callers t.fn t.frames t.outer s t.vars c t.inv (named c i)

          whole : (c : ℕ) → IsCellOf m 32 c → slice_index s.cells c % 2 ^ 32 ≡ slice_index s.cells c
          whole c h = mod-eq_of_lt (cell-fits s.cells c t.inv.fit h)

      -- a service that is due
      due : t.vars (Temp 3) ≡ Some 1 → Pays g (suc (suc (suc (suc k)))) s.output (with_answer plan.flow did shape done s) ahead (Goes (here g s t (service_due_c m.zero true (Some shape) rest) end))
      due is =
          let x = with_answer plan.flow did shape done s in
          let body = service_c m.zero shape [] in
          let from = here g s t (If (Of (Temp 3)) body ∷ rest) end in
          let serve = Serve (cell_c m.zero shape.number) (cell_c m.zero shape.arg_x) (cell_c m.zero shape.arg_y) (cell_c m.zero shape.arg_z) in
          pay_one g (suc (suc (suc k))) s.output x ahead from (Goes (here g s t (body ++ rest) end)) (output-is g s t)
          (step-If program from (Of (Temp 3)) 1 body rest end refl (value-Of (seen t.vars t.outer) (Temp 3) ∙ is))
          (subst (λ l. Pays g (suc (suc (suc k))) s.output x ahead (Goes (here g s t (serve ∷ l) end))) (sym (answer-onto m.zero shape rest))
          (pay_one g (suc (suc k)) s.output x ahead (here g s t (service_c m.zero shape rest) end) _ (output-is g s t) serves
          (behind_serve done.reply done.written done.world fits-done.answer fits-done.break_fits
          (exit-silent (numbers_of conv shape) (slice_index s.cells shape.number) (slice_index s.cells shape.arg_x) (slice_index s.cells shape.arg_y) (slice_index s.cells shape.arg_z) (world_of s)))))

    -- the service, where the instruction can have one and one is due, and then control
    pub served_run : (service : Bool) (b : Point) → Body code t.q b → block_at setting b.pc ≡ Inst did.inst did.kind → t.vars (Temp 3) ≡ Some (flag service) → (does is_service did.inst.transfers ≡ false → service ≡ false) → Controls
        → Pays g (k + 4) s.output (finished plan.flow did (service_due service setting.conv.service) s) ahead (Goes (here g s t (served_c m setting.conv did.inst.transfers rest) end))
    served_run service b inside stands is never go = by (does is_service did.inst.transfers) refl conv.service refl service is never
      where
        by : (can : Bool) → does is_service did.inst.transfers ≡ can → (o : Option ServiceShape) → conv.service ≡ o → (service : Bool) → t.vars (Temp 3) ≡ Some (flag service) → (can ≡ false → service ≡ false)
            → Pays g (k + 4) s.output (finished plan.flow did (service_due service o) s) ahead (Goes (here g s t (service_due_c m.zero can o rest) end))
        by false can o e true is never = let no : ⊥ = let f = never refl in cc in absurd no
        by false can o e false is never = pay_more g k (k + 4) s.output (controlled plan.flow did s) ahead (here g s t rest end) (omega arith) (alone go)
        by true can None e true is never = pay_more g k (k + 4) s.output (controlled plan.flow did s) ahead (here g s t rest end) (omega arith) (alone go)
        by true can None e false is never = pay_more g k (k + 4) s.output (controlled plan.flow did s) ahead (here g s t rest end) (omega arith) (alone go)
        by true can (Some shape) e false is never =
            let body = service_c m.zero shape [] in
            let from = here g s t (If (Of (Temp 3)) body ∷ rest) end in
            pay_more g (suc k) (k + 4) s.output (controlled plan.flow did s) ahead from (omega arith)
            (pay_one g k s.output (controlled plan.flow did s) ahead from (Goes (here g s t rest end)) (output-is g s t) (step-If program from (Of (Temp 3)) 0 body rest end refl (value-Of (seen t.vars t.outer) (Temp 3) ∙ is)) (alone go))
        by true can (Some shape) e true is never =
            pay_more g (suc (suc (suc (suc k)))) (k + 4) s.output (with_answer plan.flow did shape (asked conv shape s.cells (world_of s)) s) ahead (here g s t (service_due_c m.zero true (Some shape) rest) end) (omega arith)
            (due go shape e
            (λ c i. g.planned.closed.named t.q b c inside (subst (λ l. Contains (block_names m conv l) c) (sym stands) (service-named m conv did.inst.transfers can c (subst (λ o. Contains (service_cells o) c) (sym e) i))))
            (λ c i. g.planned.closed.assigned t.q b c inside (subst (λ l. Contains (block_assigns m conv l) c) (sym stands) (service-assigned m conv did.inst.transfers can c (subst (λ o. Contains (answer_cells o) c) (sym e) i))))
            is)
