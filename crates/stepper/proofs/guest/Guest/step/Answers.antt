use Rattle.std.proofs.Common.{◌∙◌, ap}
use Rattle.points.specs.Machine.{step}
use Rattle.stepper.specs.Shown.{state_of}
use Rattle.stepper.proofs.guest.Guest.step.Goals as goal

pub advance-requires-clause-empty : goal.advance-requires-clause-empty
advance-requires-clause-empty c = ap (λ g. g.state.streams.pending) c.self.view_is ∙ c.requires.empty

pub invariant_of-self : goal.invariant_of-self
invariant_of-self c = record { sound = c.self.invariant.sound; fits = c.advance.ensures.fits }

pub invariant_of-self-2 : goal.invariant_of-self-2
invariant_of-self-2 c = record { sound = c.self.invariant.sound; fits = c.advance.ensures.fits }

pub returns-clause-step : goal.returns-clause-step
returns-clause-step c = λ before. c.in_ok-stop.ensures.step before ∙ ap (λ g. step g.setting (state_of before g.state)) c.self.view_is

pub returns-clause-setting : goal.returns-clause-setting
returns-clause-setting c = ap (λ g. g.setting) c.self.view_is
