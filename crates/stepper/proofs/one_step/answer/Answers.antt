use Rattle.rtl_core.specs.Services.{asked}
use Rattle.space.specs.Ranges.{memory_of}
use Rattle.points.specs.Machine.{world_of}
use Rattle.std.proofs.Common.{ap, refl, []}
use Rattle.stepper.specs.Shown.{state_of, did_of}
use Rattle.points.specs.Bundles.{setting_of}
use Rattle.stepper.proofs.Serving.{answer-exits, answer-on, with_parts, fits-behind-service}
use Rattle.stepper.proofs.one_step.answer.Goals as goal

pub returns-in-Exit-clause-step : goal.returns-in-Exit-clause-step
returns-in-Exit-clause-step c = λ shape is before.
    let s = state_of before c.args.state.now in
    answer-exits (setting_of c.args.on.now) (did_of c.args.inst.now c.args.effect.now) shape s (world_of s) c.args.state.now.cells.values c.in-Exit.status
    c.serve.new.streams.pending (c.in-Exit.ensures.end shape is) (ap (λ f. f.pending) (c.in-Exit.ensures.streams shape is))

pub returns-in-Go-clause-step : goal.returns-in-Go-clause-step
returns-in-Go-clause-step c = λ shape is before.
    let setting = setting_of c.args.on.now in
    let did = did_of c.args.inst.now c.args.effect.now in
    let s = state_of before c.args.state.now in
    let done = asked setting.conv shape c.args.state.now.cells.values (world_of s) in
    let cells = c.serve.new.cells.values in
    let memory = memory_of c.serve.new.mem in
    let flow = c.serve.new.streams in
    answer-on setting did shape done s cells memory flow c.control.result c.control.new.point
    (c.in-Go.ensures.cells shape is) (c.in-Go.ensures.memory shape is) (c.in-Go.ensures.streams shape is) (c.in-Go.ensures.end shape is)
    (c.control.ensures setting (with_parts s cells memory flow) refl)

pub returns-in-Exit-clause-fits : goal.returns-in-Exit-clause-fits
returns-in-Exit-clause-fits c = λ shape is.
    fits-behind-service (setting_of c.args.on.now) shape c.args.state.now.cells.values c.serve.new.cells.values c.args.state.now.windows (world_of (state_of [] c.args.state.now)) c.serve.new.streams
    c.requires.sound.sound is c.requires.fits.1 (c.in-Exit.ensures.cells shape is) (c.in-Exit.ensures.streams shape is) c.requires.fits.0

pub returns-in-Go-clause-fits : goal.returns-in-Go-clause-fits
returns-in-Go-clause-fits c = λ shape is.
    fits-behind-service (setting_of c.args.on.now) shape c.args.state.now.cells.values c.serve.new.cells.values c.args.state.now.windows (world_of (state_of [] c.args.state.now)) c.serve.new.streams
    c.requires.sound.sound is c.requires.fits.1 (c.in-Go.ensures.cells shape is) (c.in-Go.ensures.streams shape is) c.requires.fits.0
