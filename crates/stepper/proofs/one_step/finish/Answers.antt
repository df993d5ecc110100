use Rattle.std.proofs.Common.{◌∙◌, refl, sym, ap, ◌++◌, append-nil}
use Rattle.std.specs.Prelude.{IsSome}
use Rattle.stepper.specs.Shown.{state_of, did_of, moment}
use Rattle.points.specs.Bundles.{setting_of}
use Rattle.stepper.proofs.Branches.{finished-serves, finished-plain, due-shape}
use Rattle.stepper.proofs.one_step.finish.Goals as goal

pub answer-requires-clause-service : goal.answer-requires-clause-service
answer-requires-clause-service c =
    due-shape c.args.effect.now.service c.args.on.now.conv.now.service (sym c.is_due.ensures ∙ c.if-is_due.true) (λ shape is. let e : IsSome c.args.on.now.conv.now.service = rw is refl in e)

pub returns-then-is_due-clause-step : goal.returns-then-is_due-clause-step
returns-then-is_due-clause-step c = λ before.
    let setting = setting_of c.args.on.now in
    let due = sym c.is_due.ensures ∙ c.if-is_due.true in
    finished-serves setting (did_of c.args.inst.now c.args.effect.now) c.args.effect.now.service setting.conv.service (state_of before c.args.state.now)
    (moment c.answer.result (state_of (before ++ c.answer.new.state.streams.pending) c.answer.new.state)) due (λ shape is. c.answer.ensures.step shape is before)

pub returns-then-is_due-clause-fits : goal.returns-then-is_due-clause-fits
returns-then-is_due-clause-fits c =
    due-shape c.args.effect.now.service c.args.on.now.conv.now.service (sym c.is_due.ensures ∙ c.if-is_due.true) (λ shape is. c.answer.ensures.fits shape is)

pub returns-clause-step : goal.returns-clause-step
returns-clause-step c = λ before.
    let setting = setting_of c.args.on.now in
    let did = did_of c.args.inst.now c.args.effect.now in
    let s = state_of before c.args.state.now in
    let more = c.args.state.now.streams.pending in
    let new = record c.args.state.now { point = c.control.new.point } in
    ap (λ o. moment c.control.result (state_of o new)) (ap (λ m. before ++ m) c.requires.empty ∙ append-nil before)
    ∙ c.control.ensures setting s refl
    ∙ finished-plain setting did c.args.effect.now.service setting.conv.service s (sym c.is_due.ensures ∙ c.if-is_due.false)
