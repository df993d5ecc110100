use Rattle.std.proofs.Common.{refl, ap}
use Rattle.space.specs.Ranges.{memory_of}
use Rattle.points.specs.Bundles.{setting_of}
use Rattle.stepper.proofs.FirstCells.{fits-first, first-begun}
use Rattle.stepper.proofs.guest.Guest.build.Goals as goal

pub invariant_of-result : goal.invariant_of-result
invariant_of-result c = record {
  sound = c.requires;
  fits = fits-first (setting_of c.args.on.now) c.in-Ok.parts.cells.values c.in-Ok.parts.windows c.in-Ok.parts.streams c.args.input.now c.requires.sound c.in-Ok.ensures.cells c.in-Ok.ensures.shape c.in-Ok.ensures.streams;
}

pub returns-in-Ok-clause-state : goal.returns-in-Ok-clause-state
returns-in-Ok-clause-state c =
    first-begun (setting_of c.args.on.now) c.in-Ok.parts.cells.values c.in-Ok.parts.windows (memory_of c.args.space) c.args.entry c.in-Ok.parts.streams c.args.input.now
    c.in-Ok.ensures.cells c.in-Ok.ensures.none c.in-Ok.ensures.streams

pub returns-in-Ok-clause-ready : goal.returns-in-Ok-clause-ready
returns-in-Ok-clause-ready c = record { going = refl; empty = ap (λ f. f.pending) c.in-Ok.ensures.streams }
