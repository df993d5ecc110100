-- The C of a plan comes to a state that stands for the machine's, after any number of instructions.
use Rattle.std.proofs.Common.{ℕ, suc, ◌+◌, ◌*◌, ◌≤◌, List, [], ◌∷◌, refl, sym, subst, arith}
use Rattle.lockstep.specs.Runs.{Goes, Ends, Stops, Sticks, after}
use Rattle.lockstep.specs.Meets.{Matches}
use Rattle.lockstep.proofs.Simulation.{matches_each}
use Rattle.rtl_core.specs.declared.stop.Stop.{Stop}
use Rattle.rtl_core.specs.FirstMemory.{Block}
use Rattle.points.specs.declared.block.Member.{Member}
use Rattle.points.specs.Running.{State, MNext}
use Rattle.points.specs.Running as Running
use Rattle.c_lang.specs.State.{Frame, CNext}
use Rattle.c_lang.specs.State as C
use Rattle.c_lang.specs.Step.{step}
use Rattle.c_control.specs.Frames.{AllWait, StandsFor, FramesStayRight, machine_at, c_at}
use Rattle.c_control.specs.Programs.{bound}
use Rattle.c_control.proofs.Frames.{Emission, Below, Related, owed}
use Rattle.c_control.proofs.OneStep.{enough}
use Rattle.c_control.proofs.PlannedSame.{first, in_lockstep}
use Rattle.c_control.proofs.Starting.{begin, begins}

module _ (g : Emission) where
  -- the frames that are right wait
  all-wait : (t : ℕ) (callers : List ℕ) (calls : List Member) (frames : List Frame) (cells : List ℕ) → Below g t callers calls frames cells → AllWait g.plan g.roots g.program cells t calls frames
  all-wait t [] [] [] cells h = AllWait.none
  all-wait t [] [] (f ∷ frames) cells h = absurd h
  all-wait t [] (k ∷ calls) frames cells h = absurd h
  all-wait t (q ∷ callers) [] frames cells h = absurd h
  all-wait t (q ∷ callers) (k ∷ calls) [] cells h = absurd h
  all-wait t (q ∷ callers) (k ∷ calls) (f ∷ frames) cells h = AllWait.more h.0.waits (all-wait q callers calls frames cells h.1)

  -- what belongs together stands for one another
  stands : (s : State) (c : C.State) → Related g s c → StandsFor g.plan g.roots g.program s c
  stands s c r = subst (StandsFor g.plan g.roots g.program s) (sym r.is) (record {
    q = r.q;
    fn = r.fn;
    procedure = r.procedure;
    inside = r.inside;
    function_is = refl;
    place = refl;
    agree = r.inv.agree;
    ra_is = r.inv.ra_is;
    target = r.target;
    depth = r.inv.depth;
    few = r.inv.few;
    below = all-wait r.q r.callers s.control.calls r.frames s.cells r.inv.below;
    world = r.inv.world;
  })

  matches-stand : (x : MNext) (z : CNext) → Matches (Related g) x z → Matches (StandsFor g.plan g.roots g.program) x z
  matches-stand (Goes s) (Goes c) r = stands s c r
  matches-stand (Goes s) (Ends p e) r = absurd r
  matches-stand (Ends o t) (Goes c) r = absurd r
  matches-stand (Ends o t) (Ends p (Stops u)) r = r
  matches-stand (Ends o t) (Ends p (Sticks item)) r = absurd r

  stay-right : (block : Block) (input : List ℕ) (n : ℕ)
      → (k : ℕ) × (k ≤ bound g.plan.flow.setting.machine * (n + 1)) × Matches (StandsFor g.plan g.roots g.program) (machine_at g.plan g.parts g.entry block input n) (c_at g.program block input k)
  stay-right block input n =
      let m = g.plan.flow.setting.machine in
      let le : suc (enough g) ≤ bound m = omega arith in
      let f = matches_each State C.State Stop (Running.step g.plan.flow) (step g.program) (λ s. s.output) (λ c. c.outer.output) (Related g) (λ s. owed g s.control.calls) (enough g) (bound m) le (first g block input) (begin g block input) (in_lockstep g block input) n in
      let x = machine_at g.plan g.parts g.entry block input n in
      (f.0, f.1, matches-stand x (c_at g.program block input f.0) (subst (λ z. Matches (Related g) x (after (step g.program) f.0 z)) (sym (begins g block input)) f.2))

pub frames-stay-right : FramesStayRight
frames-stay-right plan roots parts entry program planned = stay-right (record { plan = plan; roots = roots; parts = parts; entry = entry; program = program; planned = planned })
