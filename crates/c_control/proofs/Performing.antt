-- The transfers of an instruction, in the function of its procedure.
use Rattle.std.proofs.Common.{◌≡◌, ◌≢◌, ℕ, ◌+◌, ◌-◌, ◌*◌, ◌^◌, ◌<◌, ◌≤◌, List, [], ◌++◌, Option, Some, None, inl, refl, sym, ap, ◌∙◌, subst, ⊎_elim, arith}
use Rattle.std.specs.Prelude.{slice_index, is_some}
use Rattle.std.specs.List.{Contains}
use Rattle.lockstep.specs.Runs.{Goes, Ends}
use Rattle.lockstep.specs.Meets.{Meets, Matches}
use Rattle.lockstep.proofs.Stretches.{Advances, advance_behind, narrow}
use Rattle.rtl_core.specs.declared.conv.Conv.{Conv}
use Rattle.rtl_core.specs.declared.conv.ServiceShape.{ServiceShape}
use Rattle.rtl_core.specs.declared.inst.GroundInst.{GroundInst}
use Rattle.rtl_core.specs.declared.machine.Machine.{Machine}
use Rattle.rtl_core.specs.declared.point.Point.{Point}
use Rattle.rtl_core.specs.Arithmetic.{flag}
use Rattle.rtl_core.specs.Contents.{Contents}
use Rattle.rtl_core.specs.Services.{World}
use Rattle.rtl_core.specs.SoundTerms.{Fit, AreSoundTransfers}
use Rattle.rtl_core.specs.Transfers.{Doing, Ran, Went, Halted, all_transferred, fresh}
use Rattle.points.specs.declared.block.Block.TheVariants.{Inst}
use Rattle.points.specs.declared.block.JumpKind.{JumpKind}
use Rattle.points.specs.declared.block.Standing.{Standing}
use Rattle.points.specs.declared.block.Standing.TheVariants.{Outside, Illegal, Stands}
use Rattle.points.specs.Bodies.{Code, code_of, Body}
use Rattle.points.specs.Kinds.{block_at, block_of}
use Rattle.points.specs.Machine.{Setting, standing}
use Rattle.points.specs.Running.{State, MNext, after_transfers, concluded}
use Rattle.points.specs.Summaries.{block_assigns}
use Rattle.points.proofs.StandingSound.{standing-grounded, standing-sound}
use Rattle.c_lang.specs.declared.tree.End.{End}
use Rattle.c_lang.specs.declared.tree.Header.{Header}
use Rattle.c_lang.specs.declared.tree.Program.{Program}
use Rattle.c_lang.specs.declared.tree.Stmt.{Stmt}
use Rattle.c_lang.specs.declared.tree.Var.TheVariants.{Ra, Pt, Temp, Depth}
use Rattle.c_lang.specs.Value.{Vars}
use Rattle.c_lang.specs.State.{Frame, Outer, CNext, Place, At}
use Rattle.c_lang.specs.State as C
use Rattle.c_lang.specs.Step.{step}
use Rattle.c_lower.specs.Accounts.{lowered_steps}
use Rattle.c_lower.specs.Contract.{Declares, IsBehind, IsHeaderOf, LeadsTo, ShowsDoing, jump_flag}
use Rattle.c_lower.specs.Lowered.{lowered}
use Rattle.c_lower.specs.Theorem.{IsLowered}
use Rattle.c_lower.proofs.Acts.{is_lowered}
use Rattle.c_lower.proofs.GroundBound.{all_within}
use Rattle.c_control.specs.Plans.{Plan}
use Rattle.c_control.specs.Programs.{header_for}
use Rattle.c_control.proofs.Assigning.{all-stay, have-lengths}
use Rattle.c_control.proofs.Behind.{Left}
use Rattle.c_control.proofs.Cells.{In}
use Rattle.c_control.proofs.Steps.{st}
use Rattle.c_control.proofs.Frames.{Emission, Inv, Related, Way, declared-of, keep-below, owed}
use Rattle.c_control.proofs.Arrivals.{Stand, Pays, here, next_owed, output-is, pay}
use Rattle.c_control.proofs.Naming.{gets, is-naming}

-- a state by all its parts
pub state-is : (t : C.State) (ix : ℕ) (rest : List Stmt) (end : End) (frames : List Frame) → t.top.function ≡ ix → t.top.place ≡ At rest end → t.below ≡ frames → t ≡ st ix rest end t.top.vars frames t.outer
state-is t ix rest end frames e f h =
    let A = λ (i : ℕ). let s : C.State = record { top = record { function = i; place = t.top.place; vars = t.top.vars }; below = t.below; outer = t.outer } in s in
    let B = λ (p : Place). let s : C.State = record { top = record { function = ix; place = p; vars = t.top.vars }; below = t.below; outer = t.outer } in s in
    let D = λ (b : List Frame). st ix rest end t.top.vars b t.outer in
    ap A e ∙ ap B f ∙ ap D h

-- what stands at an address, where it is an instruction
of-standing : (setting : Setting) (s : Standing) (inst : GroundInst) (kind : JumpKind) → block_of setting s ≡ Inst inst kind → s ≡ Stands inst
of-standing setting Outside inst kind e = let no : ⊥ = cc in absurd no
of-standing setting Illegal inst kind e = let no : ⊥ = cc in absurd no
of-standing setting (Stands i) inst kind e = let same : i ≡ inst = cc in ap Stands same

pub stands : (setting : Setting) (pc : ℕ) (inst : GroundInst) (kind : JumpKind) → block_at setting pc ≡ Inst inst kind → standing setting pc ≡ Stands inst
unfolding block_at
stands setting pc inst kind e = of-standing setting (standing setting pc) inst kind e

world-is : (w : World) (memory : Contents) (input : List ℕ) (heap_end : ℕ) → w.memory ≡ memory → w.input ≡ input → w.heap_end ≡ heap_end → w ≡ record { memory = memory; input = input; heap_end = heap_end }
world-is w memory input heap_end e f g =
    ap (λ x. let u : World = record { memory = x; input = w.input; heap_end = w.heap_end } in u) e ∙ ap (λ x. let u : World = record { memory = memory; input = x; heap_end = w.heap_end } in u) f
    ∙ ap (λ x. let u : World = record { memory = memory; input = input; heap_end = x } in u) g

jump-flag : (jump : Option ℕ) → jump_flag jump ≡ flag (is_some jump)
jump-flag None = refl
jump-flag (Some v) = refl

header-like : (m : Machine) (conv : Conv) (o : Option ServiceShape) → ((header_for m conv o).order ≡ m.order) × ((header_for m conv o).align ≡ m.align)
header-like m conv None = (refl, refl)
header-like m conv (Some shape) = (refl, refl)

module _ (g : Emission) where
  abbrev plan : Plan
  plan = g.plan

  abbrev setting : Setting
  setting = plan.flow.setting

  abbrev m : Machine
  m = setting.machine

  abbrev program : Program
  program = g.program

  abbrev code : Code
  code = code_of setting plan.flow.table

  pub is-header : IsHeaderOf m program
  is-header =
      let like = header-like m setting.conv setting.conv.service in
      record { order = ap (λ (h : Header). h.order) g.planned.header ∙ like.0; align = ap (λ (h : Header). h.align) g.planned.header ∙ like.1 }

  -- a stretch, and what is behind it
  pub pays_behind : (a k : ℕ) (old : List ℕ) (x : MNext) (d : ℕ) (c : C.State) (Q : CNext → Type 0) → Meets (step program) (λ t. t.outer.output ≡ old) Q a (Goes c) → next_owed g x ≤ k + d
      → ((y : CNext) → Q y → Advances (step program) (Way g old x) (Matches (Related g) x) (k + d - next_owed g x) y) → Pays g (a + k) old x d (Goes c)
  pays_behind a k old x d c Q first few then =
      let n = a + (k + d - next_owed g x) in
      let le : n + next_owed g x ≤ a + k + d = omega (arith, few) in
      pay g (a + k) old x d n c le (advance_behind (step program) (Way g old x) Q (Matches (Related g) x) (narrow (step program) (λ t. t.outer.output ≡ old) (Way g old x) Q (λ t e. inl e) first) then)

  -- a cell that the procedure does not hand back is as before
  kept-cell : (q : ℕ) (b : Point) (inst : GroundInst) (kind : JumpKind) (cells : List ℕ) (memory : Contents) (saved : List (List ℕ)) (d : Doing) → Body code q b → block_at setting b.pc ≡ Inst inst kind → Fit m cells → Fit m d.cells
      → Rattle.c_control.proofs.Assigning.HaveLengths m.windows saved → all_transferred m b.pc inst.transfers (fresh cells memory saved) ≡ Went d → (c : ℕ) → (In c (plan.mods q) → ⊥) → slice_index d.cells c ≡ slice_index cells c
  kept-cell q b inst kind cells memory saved d inside e old new sizes ran c not = by m.zero refl
    where
      beside : m.zero ≢ Some c → slice_index d.cells c ≡ slice_index cells c
      beside ne =
          let P = λ (r : Ran). Rattle.c_control.proofs.Assigning.Stays m setting.conv b.pc c (slice_index cells c) r in
          let stays : P (Went d) = subst P ran (all-stay m setting.conv b.pc c inst.transfers (fresh cells memory saved)
          (λ i. not (g.planned.closed.assigned q b c inside (subst (λ k. Contains (block_assigns m setting.conv k) c) (sym e) i) ne)) sizes) in
          stays.0

      by : (o : Option ℕ) → m.zero ≡ o → slice_index d.cells c ≡ slice_index cells c
      by None o = beside (λ o'. let no : ⊥ = cc in absurd no)
      by (Some z) o =
          ⊎_elim (λ same. ap (λ k. slice_index d.cells k) (sym same) ∙ new.zeroed z o ∙ sym (old.zeroed z o) ∙ ap (λ k. slice_index cells k) same)
          (λ other. beside (λ o'. let same : z ≡ c = cc in other same)) (Rattle.std.proofs.lemmas.Bool.cases_eq z c)

  module _ (s : State) (t : Stand g s) (inst : GroundInst) (kind : JumpKind) (inside : Body code t.q s.control.point) (e : block_at setting s.control.point.pc ≡ Inst inst kind) where
    abbrev pc : ℕ
    pc = s.control.point.pc

    abbrev ran : Ran
    ran = all_transferred m pc inst.transfers (fresh s.cells s.memory s.saved)

    pub small-pc : pc < 2 ^ 32
    small-pc = g.planned.small t.q s.control.point t.procedure inside

    is-lowered : IsLowered m pc inst.transfers (gets g t.q) t.fn.found.function.temps
    is-lowered =
        let sound = g.planned.sound.machine.machine in
        let transfers : AreSoundTransfers m inst.transfers = standing-sound setting pc inst sound small-pc (stands setting pc inst kind e) in
        is_lowered m (record { widths = sound.widths; windows = sound.windows }) pc small-pc inst.transfers transfers (gets g t.q) (is-naming g t.q s.control.point inst kind inside e) t.fn.found.function.temps
        (t.fn.room.needs s.control.point inst kind inside e)

    pub few-steps : lowered_steps m inst.transfers ≤ 8 * m.most_nodes + 64
    few-steps =
        let sound = g.planned.sound.machine.machine in
        let ground = standing-grounded setting pc inst (stands setting pc inst kind e) in
        (all_within m sound ground.matched pc ground.next inst ground.is small-pc ground.fits).steps

    declares : (rest : List Stmt) (end : End) → Declares program (gets g t.q) t.fn.found.function.temps (here g s t rest end)
    declares rest end = let d = declared-of g t.q t.fn in record { cells = λ c i. d.cells c i; temporaries = λ k lt. d.temporaries k lt }

    shows : (rest : List Stmt) (end : End) → ShowsDoing m (gets g t.q) (fresh s.cells s.memory s.saved) (here g s t rest end)
    shows rest end = record {
      cells = record { reads = λ c i. t.inv.agree c i };
      fit = t.inv.fit;
      saved = record { count = t.inv.world.count; few = t.inv.world.few; words = t.inv.world.words; windows = t.inv.world.windows };
      memory = ap (λ (w : World). w.memory) t.inv.world.world;
    }

    -- where the frames are right behind the transfers
    inv-behind : (rest : List Stmt) (end : End) (d : Doing) (u : C.State) → ran ≡ Went d → IsBehind m (gets g t.q) (here g s t (lowered m pc inst.transfers [] ++ rest) end) rest end d u
        → Inv g (after_transfers s d) t.q t.callers u.top.vars t.frames u.outer
    inv-behind rest end d u is b = record {
      agree = λ c i. b.shows.cells.reads c i;
      ra_is = b.left Ra tt ∙ t.inv.ra_is;
      below = keep-below g t.q t.callers s.control.calls t.frames s.cells d.cells
          (kept-cell t.q s.control.point inst kind s.cells s.memory s.saved d inside e t.inv.fit b.shows.fit (have-lengths m.windows s.saved t.inv.world.windows) is) t.inv.below;
      depth = b.left Depth tt ∙ t.inv.depth;
      few = t.inv.few;
      fit = b.shows.fit;
      break_fits = t.inv.break_fits;
      world = record {
        count = b.shows.saved.count;
        few = b.shows.saved.few;
        words = b.shows.saved.words;
        windows = b.shows.saved.windows;
        world = world-is u.outer.world d.memory s.input s.heap_end b.shows.memory (b.input ∙ ap (λ (w : World). w.input) t.inv.world.world) (b.heap_end ∙ ap (λ (w : World). w.heap_end) t.inv.world.world);
        output = b.output ∙ t.inv.world.output;
      };
    }

    -- the transfers, and what is done behind them
    pub transfers_run : (rest : List Stmt) (end : End) (k : ℕ) → next_owed g (concluded plan.flow inst kind ran s) ≤ k + owed g s.control.calls
        → ((d : Doing) → ran ≡ Went d → (vars : Vars) (outer : Outer) → Inv g (after_transfers s d) t.q t.callers vars t.frames outer → Left g d.jump d.annul vars → vars (Temp 3) ≡ Some (flag d.service) → vars Pt ≡ t.vars Pt
        → Pays g k s.output (concluded plan.flow inst kind (Went d) s) (owed g s.control.calls) (Goes (st t.fn.found.index rest end vars t.frames outer)))
        → Pays g (lowered_steps m inst.transfers + k) s.output (concluded plan.flow inst kind ran s) (owed g s.control.calls) (Goes (here g s t (lowered m pc inst.transfers [] ++ rest) end))
    transfers_run rest end k few go =
        let from = here g s t (lowered m pc inst.transfers [] ++ rest) end in
        let same : t.outer.world.memory ≡ s.memory = ap (λ (w : World). w.memory) t.inv.world.world in
        let shown = subst (λ mem. ShowsDoing m (gets g t.q) (fresh s.cells mem s.saved) from) (sym same) (shows (lowered m pc inst.transfers [] ++ rest) end) in
        let first = is-lowered.does.runs program is-header from (declares (lowered m pc inst.transfers [] ++ rest) end) s.cells s.saved shown rest end in
        let Q = λ (mem : Contents). LeadsTo m (gets g t.q) from rest end (all_transferred m pc inst.transfers (fresh s.cells mem s.saved)) in
        let first' : Meets (step program) (λ u. u.outer.output ≡ s.output) (Q s.memory) (lowered_steps m inst.transfers) (Goes from) =
        subst (λ mem. Meets (step program) (λ u. u.outer.output ≡ s.output) (Q mem) (lowered_steps m inst.transfers) (Goes from)) same
        (narrow (step program) (λ u. u.outer.output ≡ t.outer.output) (λ u. u.outer.output ≡ s.output) (Q t.outer.world.memory) (λ u h. h ∙ output-is g s t) first) in
        pays_behind (lowered_steps m inst.transfers) k s.output (concluded plan.flow inst kind ran s) (owed g s.control.calls) from (Q s.memory) first' few (λ y leads. by ran refl y leads)
      where
        by : (r : Ran) → ran ≡ r → (y : CNext) → LeadsTo m (gets g t.q) (here g s t (lowered m pc inst.transfers [] ++ rest) end) rest end r y
            → Advances (step program) (Way g s.output (concluded plan.flow inst kind r s)) (Matches (Related g) (concluded plan.flow inst kind r s)) (k + owed g s.control.calls - next_owed g (concluded plan.flow inst kind r s)) y
        by (Halted stop d) is y leads =
            let x : MNext = Ends s.output stop in
            subst (λ y. Advances (step program) (Way g s.output x) (Matches (Related g) x) (k + owed g s.control.calls - next_owed g x) y) (sym leads) (output-is g s t, refl)
        by (Went d) is y leads =
            let u = leads.0 in
            let b = leads.2 in
            let x = concluded plan.flow inst kind (Went d) s in
            let at = state-is u t.fn.found.index rest end t.frames b.function b.place b.below in
            let left : Left g d.jump d.annul u.top.vars = record { target = b.target; small = b.target_fits; jumps = b.jumps ∙ ap Some (jump-flag d.jump); annuls = b.annuls } in
            subst (λ y. Advances (step program) (Way g s.output x) (Matches (Related g) x) (k + owed g s.control.calls - next_owed g x) y) (sym (leads.1 ∙ ap Goes at))
            (go d is u.top.vars u.outer (inv-behind rest end d u is b) left b.serves (b.left Pt tt)).1
