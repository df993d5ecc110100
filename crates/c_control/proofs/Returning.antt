-- A return goes through the frames of the tail jumps to the frame of the last call.
use Rattle.std.proofs.Common.{◌≡◌, ℕ, ◌+◌, ◌-◌, ◌^◌, ◌<◌, ◌≤◌, Bool, false, List, [], ◌∷◌, length, Some, ◌⊎◌, inl, inr, refl, sym, ap, ◌∙◌, subst, ⊎_elim, arith}
use Rattle.std.specs.Prelude.{slice_index, if◌then◌else◌, Ok, Err}
use Rattle.lockstep.specs.Runs.{Goes}
use Rattle.lockstep.specs.Meets.{Meets, met, Matches}
use Rattle.lockstep.proofs.Stretches.{narrow, longer, behind}
use Rattle.rtl_core.specs.declared.machine.Machine.{Machine}
use Rattle.rtl_core.specs.declared.point.Slot.TheVariants.{Seq}
use Rattle.rtl_core.specs.declared.stop.Stop.{Stop}
use Rattle.rtl_core.specs.SoundTerms.{Fit}
use Rattle.points.specs.declared.block.Member.{Member}
use Rattle.points.specs.declared.block.Member.TheVariants.{Call, Tail}
use Rattle.points.specs.Machine.{Setting}
use Rattle.points.specs.Courses.{point}
use Rattle.points.specs.Control.{Control, returned as machine_returned, is_return_point}
use Rattle.points.specs.Bodies.{Code, code_of}
use Rattle.points.specs.Running.{State, MNext, moved}
use Rattle.c_lang.specs.declared.tree.End.TheVariants.{Return}
use Rattle.c_lang.specs.declared.tree.Program.{Program}
use Rattle.c_lang.specs.declared.tree.Var.TheVariants.{Result as ResultOf, Depth, ServeE}
use Rattle.c_lang.specs.Value.{Vars}
use Rattle.c_lang.specs.State.{Frame, Outer}
use Rattle.c_lang.specs.Step.{step, returned}
use Rattle.c_control.specs.Frames.{HoldsWorld, top_ra}
use Rattle.c_control.specs.Plans.{Plan, ra_of, no_return}
use Rattle.c_control.proofs.Steps.{st}
use Rattle.c_control.proofs.Cells.{In}
use Rattle.c_control.proofs.Frames.{Emission, SameWorld, Below, IsBack, Related, Resumed, Way, at_point, bit, cost, owed}

module _ (g : Emission) where
  abbrev plan : Plan
  plan = g.plan

  abbrev setting : Setting
  setting = plan.flow.setting

  abbrev m : Machine
  m = setting.machine

  abbrev program : Program
  program = g.program

  abbrev code : Code
  code = code_of setting plan.flow.table

  -- the last call on the list is this one, and these are the members before it
  abbrev pub Opens : List Member → ℕ → List Member → Type 0
  Opens [] back rest = ⊥
  Opens (Call q ∷ calls) back rest = (q ≡ back) × (calls ≡ rest)
  Opens (Tail ∷ calls) back rest = Opens calls back rest

  pub owed-rest : (calls : List Member) (back : ℕ) (rest : List Member) → Opens calls back rest → owed g rest ≤ owed g calls
  owed-rest [] back rest h = absurd h
  owed-rest (Call q ∷ calls) back rest h = let e = ap (owed g) h.1 in omega (arith, e)
  owed-rest (Tail ∷ calls) back rest h = omega (arith, owed-rest calls back rest h)

  -- the state behind a return
  abbrev pub landed : State → List Member → State
  landed s rest = record s { control = record s.control { point = point s.control.target Seq; calls = rest } }

  pub world-same : (s t : State) (a b : Outer) → t.saved ≡ s.saved → Rattle.points.specs.Running.world_of t ≡ Rattle.points.specs.Running.world_of s → t.output ≡ s.output → HoldsWorld m s a → SameWorld a b → HoldsWorld m t b
  world-same s t a b saved world output h k = record {
    count = k.windows ∙ h.count ∙ ap (λ l. Some (length l)) (sym saved);
    few = subst (λ l. length l ≤ Rattle.rtl_core.specs.Windows.most_windows) (sym saved) h.few;
    words = subst (λ l. Rattle.c_lower.specs.Contract.AreWords b.words l) (sym saved) (subst (λ w. Rattle.c_lower.specs.Contract.AreWords w s.saved) (sym k.words) h.words);
    windows = subst (λ l. Rattle.c_lower.specs.Contract.AreWindows m.windows l) (sym saved) h.windows;
    world = k.world ∙ h.world ∙ sym world;
    output = k.output ∙ h.output ∙ sym output;
  }

  pub unwind : (s : State) → Fit m s.cells → s.heap_end < 2 ^ 32 → (back : ℕ) (rest : List Member) (e : Bool) → IsBack g back e s.control.target → (callers : List ℕ) (calls : List Member) (frames : List Frame) → Opens calls back rest
      → (t ix : ℕ) (vars : Vars) (outer : Outer) → Below g t callers calls frames s.cells → HoldsWorld m s outer → ((c : ℕ) → In c (plan.mods t) → outer.globals (ResultOf c) ≡ Some (slice_index s.cells c))
      → outer.globals Depth ≡ Some (length calls) → outer.globals ServeE ≡ Some (bit g e) → length calls ≤ 65536 → (k : ℕ) → cost g + owed g calls ≤ k + owed g rest
      → Meets (step program) (Way g s.output (Goes (landed s rest))) (Matches (Related g) (Goes (landed s rest))) k (returned program (st ix [] Return vars frames outer) frames)
  unwind s fit fits back rest e at callers [] frames opens t ix vars outer below world results depth flag few k le = absurd opens
  unwind s fit fits back rest e at [] (member ∷ calls) frames opens t ix vars outer below world results depth flag few k le = absurd below
  unwind s fit fits back rest e at (q ∷ callers) (member ∷ calls) [] opens t ix vars outer below world results depth flag few k le = absurd below
  unwind s fit fits back rest e at (q ∷ callers) (Call b ∷ calls) (f ∷ frames) opens t ix vars outer below world results depth flag few k le =
      let x : MNext = Goes (landed s rest) in
      let held = below.0 in
      let at' : IsBack g b e s.control.target = subst (λ a. IsBack g a e s.control.target) (sym opens.0) at in
      let enough : cost g + 0 ≤ k = let w = ap (owed g) opens.1 in omega (arith, le, w) in
      let R = Resumed g (Call b) q f.function f.vars e s.control.target (length calls) s.cells frames outer in
      longer (step program) (Way g s.output x) (Matches (Related g) x) enough
      (behind (step program) (Way g s.output x) R (Matches (Related g) x)
      (narrow (step program) (λ c. c.outer.output ≡ outer.output) (Way g s.output x) R (λ c w. inl (w ∙ world.output))
      (held.resumes.runs s.cells e s.control.target frames outer at' (record { keeps = held.waits.agree; results = results; depth_is = depth; flag_is = flag })))
      (λ z h. met (subst (Matches (Related g) x) (sym h.is) (record {
        q = q;
        callers = callers;
        fn = held.waits.fn;
        procedure = held.waits.procedure;
        vars = h.vars;
        frames = frames;
        outer = h.outer;
        is = ap (λ i. at_point g q i (point s.control.target Seq) h.vars frames h.outer) held.waits.function_is;
        inside = held.resumes.has_back e s.control.target at';
        target = tt;
        inv = record {
          agree = h.agree;
          ra_is = h.ra_is ∙ held.waits.ra_is ∙ ap (λ l. Some (top_ra setting l)) opens.1;
          below = subst (λ l. Below g q callers l frames s.cells) opens.1 below.1;
          depth = h.depth_is ∙ ap (λ l. Some (length l)) opens.1;
          few = let w = ap length opens.1 in omega (arith, few, w);
          fit = fit;
          break_fits = fits;
          world = world-same s (landed s rest) outer h.outer refl refl refl world h.world;
        };
      }))))
  unwind s fit fits back rest e at (q ∷ callers) (Tail ∷ calls) (f ∷ frames) opens t ix vars outer below world results depth flag few k le =
      let x : MNext = Goes (landed s rest) in
      let held = below.0 in
      let more = owed-rest calls back rest opens in
      let left = k - cost g in
      let enough : cost g + left ≤ k = omega (arith, le, more) in
      let enough' : cost g + owed g calls ≤ left + owed g rest = omega (arith, le, more) in
      let R = Resumed g Tail q f.function f.vars e s.control.target (length calls) s.cells frames outer in
      longer (step program) (Way g s.output x) (Matches (Related g) x) enough
      (behind (step program) (Way g s.output x) R (Matches (Related g) x)
      (narrow (step program) (λ c. c.outer.output ≡ outer.output) (Way g s.output x) R (λ c w. inl (w ∙ world.output))
      (held.resumes.runs s.cells e s.control.target frames outer tt (record { keeps = held.waits.agree; results = results; depth_is = depth; flag_is = flag })))
      (λ z h. subst (Meets (step program) (Way g s.output x) (Matches (Related g) x) left) (sym h.is)
      (unwind s fit fits back rest e at callers calls frames opens q f.function h.vars h.outer below.1 (world-same s s outer h.outer refl refl refl world h.world) h.results h.depth_is h.flag_is (omega (arith, few)) left enough')))

  -- ---- the last call on the list

  pub record NoCall (calls : List Member) : Type 0 where
    pub ra : top_ra setting calls ≡ no_return
    pub is : (c : Control) → machine_returned setting calls c ≡ Err (Stop.ReturnMismatch c.target)

  pub record LastCall (calls : List Member) : Type 0 where
    pub back : ℕ
    pub rest : List Member
    pub opens : Opens calls back rest
    pub ra : top_ra setting calls ≡ ra_of setting back
    pub is : (c : Control) → machine_returned setting calls c ≡ (if is_return_point setting back c.target then Ok (record c { point = point c.target Seq; calls = rest }) else Err (Stop.ReturnMismatch c.target))
    pub small : back < 2 ^ 32

  pub last_call : (t : ℕ) (callers : List ℕ) (calls : List Member) (frames : List Frame) (cells : List ℕ) → Below g t callers calls frames cells → NoCall calls ⊎ LastCall calls
  last_call t callers [] frames cells h = inl (record { ra = refl; is = λ c. refl })
  last_call t [] (k ∷ calls) frames cells h = absurd h
  last_call t (q ∷ callers) (k ∷ calls) [] cells h = absurd h
  last_call t (q ∷ callers) (Call b ∷ calls) (f ∷ frames) cells h =
      let inside = h.0.resumes.has_back false b refl in
      inr (record { back = b; rest = calls; opens = (refl, refl); ra = refl; is = λ c. refl; small = g.planned.small q (point b Seq) h.0.waits.procedure inside })
  last_call t (q ∷ callers) (Tail ∷ calls) (f ∷ frames) cells h =
      ⊎_elim (λ w. inl (record { ra = w.ra; is = w.is }))
      (λ w. inr (record { back = w.back; rest = w.rest; opens = w.opens; ra = w.ra; is = w.is; small = w.small }))
      (last_call q callers calls frames cells h.1)
