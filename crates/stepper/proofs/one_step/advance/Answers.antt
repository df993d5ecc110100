use Rattle.std.proofs.Common.{◌∙◌, sym, arith}
use Rattle.stepper.specs.Shown.{state_of}
use Rattle.points.specs.Bundles.{setting_of}
use Rattle.stepper.proofs.Branches.{step-outside, step-illegal, step-unground, step-ground, ground-sound}
use Rattle.stepper.proofs.one_step.advance.Goals as goal

pub returns-in-Outside-clause-step : goal.returns-in-Outside-clause-step
returns-in-Outside-clause-step c = λ before.
    step-outside (setting_of c.args.on.now) (state_of before c.args.state.now) c.args.state.now.streams.pending c.requires.empty c.in-Outside.ensures

pub returns-in-Illegal-clause-step : goal.returns-in-Illegal-clause-step
returns-in-Illegal-clause-step c = λ before.
    step-illegal (setting_of c.args.on.now) (state_of before c.args.state.now) c.args.state.now.streams.pending c.requires.empty c.in-Illegal.ensures

pub returns-in-None-clause-step : goal.returns-in-None-clause-step
returns-in-None-clause-step c = λ before.
    step-unground (setting_of c.args.on.now) (state_of before c.args.state.now) c.args.state.now.streams.pending c.requires.empty c.in-Inst.found c.in-Inst.ensures (sym c.in-None.is ∙ c.in_ok-try_ground-in-Inst.ensures)

pub perform-requires-clause-transfers : goal.perform-requires-clause-transfers
perform-requires-clause-transfers c =
    ground-sound (setting_of c.args.on.now) c.args.state.now.point.pc c.in-Inst.found c.in-Some.inst c.requires.sound.sound.machine.machine (omega arith) (sym c.in-Some.is ∙ c.in_ok-try_ground-in-Inst.ensures)

pub returns-clause-step : goal.returns-clause-step
returns-clause-step c = λ before.
    c.perform.ensures.step before ∙ step-ground (setting_of c.args.on.now) (state_of before c.args.state.now) c.in-Inst.found c.in-Some.inst c.in-Inst.ensures (sym c.in-Some.is ∙ c.in_ok-try_ground-in-Inst.ensures)
