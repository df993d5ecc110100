use Rattle.std.proofs.Common.{◌∙◌, ap}
use Rattle.rtl_meaning.specs.Effects.{doing, finished}
use Rattle.space.specs.Ranges.{memory_of}
use Rattle.stepper.specs.Shown.{state_of}
use Rattle.points.specs.Bundles.{setting_of}
use Rattle.stepper.proofs.Branches.{performed-halts, performed-went}
use Rattle.stepper.proofs.one_step.perform.Goals as goal

pub returns-in-Some-clause-step : goal.returns-in-Some-clause-step
returns-in-Some-clause-step c = λ before.
    let d = doing c.run_acts-effect.new.cells.values (memory_of c.run_acts-effect.new.mem) c.run_acts-effect.new.windows c.run_acts-effect.result in
    performed-halts (setting_of c.args.on.now) c.args.inst.now (state_of before c.args.state.now) c.in-Some.stop d c.args.state.now.streams.pending c.requires.empty
    (c.run_acts-effect.ensures.exact ∙ ap (λ o. finished o d) c.in-Some.is)

pub returns-in-None-clause-step : goal.returns-in-None-clause-step
returns-in-None-clause-step c = λ before.
    let d = doing c.run_acts-effect.new.cells.values (memory_of c.run_acts-effect.new.mem) c.run_acts-effect.new.windows c.run_acts-effect.result in
    c.finish.ensures.step before
    ∙ performed-went (setting_of c.args.on.now) c.args.inst.now (state_of before c.args.state.now) d (c.run_acts-effect.ensures.exact ∙ ap (λ o. finished o d) c.in-None.is)
