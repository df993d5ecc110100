use Rattle.std.proofs.Common.{[]}
use Rattle.points.specs.Running.{world_of}
use Rattle.graph_control.specs.Charts.{chart_of}
use Rattle.runner.specs.Shown.{state_of}
use Rattle.runner.proofs.Serving.{fits-behind-service, shape-of}
use Rattle.runner.proofs.one_step.ask.Goals as goal

pub returns-clause-fits : goal.returns-clause-fits
returns-clause-fits c =
    shape-of c.args.on.now.conv.now.service c.requires.service (λ shape is.
    fits-behind-service (chart_of c.args.on.now) shape c.args.state.now.cells.values c.serve.new.cells.values c.args.state.now.windows (world_of (state_of [] c.args.pool.now c.args.state.now)) c.serve.new.streams
    c.requires.sound is c.requires.fits.1 (c.serve.ensures.cells shape is) (c.serve.ensures.streams shape is) c.requires.fits.0)
