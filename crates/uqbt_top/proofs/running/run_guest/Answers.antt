use Rattle.space.specs.Ranges.{memory_of}
use Rattle.points.specs.Bundles.{setting_of}
use Rattle.uqbt_top.proofs.RunLaws.{nothing_taken}
use Rattle.uqbt_top.proofs.running.run_guest.Goals as goal

pub returns-in_default-clause-front : goal.returns-in_default-clause-front
returns-in_default-clause-front g c = nothing_taken (setting_of c.args.on.now) (memory_of c.args.ranges.now) c.args.entry c.args.input.now c.args.steps (g.K.Sink.output c.args.out.now)

pub returns-in_default-build-clause-front : goal.returns-in_default-build-clause-front
returns-in_default-build-clause-front g c = nothing_taken (setting_of c.args.on.now) (memory_of c.args.ranges.now) c.args.entry c.args.input.now c.args.steps (g.K.Sink.output c.args.out.now)
