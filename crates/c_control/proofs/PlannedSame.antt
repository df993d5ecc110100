-- The C text of a plan is the same as the machine.
use Rattle.std.proofs.Common.{◌≡◌, ℕ, suc, ◌+◌, ◌-◌, ◌≤◌, List, refl, sym, subst, arith}
use Rattle.lockstep.specs.Runs.{after, Same, target_view}
use Rattle.lockstep.specs.Meets.{InLockstepOnCredit, met}
use Rattle.lockstep.proofs.Simulation.{runs_on_credit}
use Rattle.rtl_core.specs.declared.stop.Stop.{Stop}
use Rattle.rtl_core.specs.FirstMemory.{Block, first_memory}
use Rattle.points.specs.Running.{State, machine_run, first_state}
use Rattle.points.specs.Running as Running
use Rattle.c_lang.specs.Run.{c_run}
use Rattle.c_lang.specs.State as C
use Rattle.c_lang.specs.Step.{step}
use Rattle.c_control.specs.Programs.{bound, PlannedIsSame}
use Rattle.c_control.proofs.Frames.{Emission, Related, owed}
use Rattle.c_control.proofs.Arrivals.{next_owed}
use Rattle.c_control.proofs.OneStep.{enough, step_run}
use Rattle.c_control.proofs.Starting.{begin, begins, related-first}

module _ (g : Emission) (block : Block) (input : List ℕ) where
  abbrev pub first : State
  first = first_state g.plan.flow.setting (first_memory g.parts g.plan.flow.setting.conv block) g.entry input

  pub in_lockstep : InLockstepOnCredit (Running.step g.plan.flow) (step g.program) (λ s. s.output) (λ c. c.outer.output) (Related g) (λ s. owed g s.control.calls) (enough g) first (begin g block input)
  in_lockstep = record {
    same_out = λ s c r. subst (λ (c : C.State). c.outer.output ≡ s.output) (sym r.is) r.inv.world.output;
    start = met (related-first g block input);
    none_at_start = refl;
    step = λ s c r.
        let run = step_run g s c r in
        let few = run.0 in
        record { taken = enough g + owed g s.control.calls - next_owed g (Running.step g.plan.flow s); paid = omega (arith, few); runs = run.1.1 };
  }

  same : Same (bound g.plan.flow.setting.machine) (machine_run g.plan.flow (first_memory g.parts g.plan.flow.setting.conv block) g.entry input) (c_run g.program block input)
  same =
      let m = g.plan.flow.setting.machine in
      let le : suc (enough g) ≤ bound m = omega arith in
      let runs = runs_on_credit State C.State Stop (Running.step g.plan.flow) (step g.program) (λ s. s.output) (λ c. c.outer.output) (Related g) (λ s. owed g s.control.calls) (enough g) (bound m) le first (begin g block input) in_lockstep in
      subst (λ x. Same (bound m) (machine_run g.plan.flow (first_memory g.parts g.plan.flow.setting.conv block) g.entry input) (λ k. target_view (λ c. c.outer.output) (after (step g.program) k x))) (sym (begins g block input)) runs

pub planned-is-same : PlannedIsSame
planned-is-same plan roots parts entry program planned =
    record { runs = λ input bytes block inside fits. same (record { plan = plan; roots = roots; parts = parts; entry = entry; program = program; planned = planned }) block input }
