use Rattle.std.proofs.Common.{refl, ap}
use Rattle.graph_control.proofs.Looking.{node_place}
use Rattle.runner.proofs.Beginning.{sound_chart, fits_first, begins_at, begins_as}
use Rattle.runner.proofs.guest.Guest.build.Goals as goal

pub take_room-requires-clause-conv : goal.take_room-requires-clause-conv
take_room-requires-clause-conv c = (sound_chart _ c.args.entry c.requires.flow c.requires.is).conv

pub take_room-requires-clause-fits : goal.take_room-requires-clause-fits
take_room-requires-clause-fits c = (sound_chart _ c.args.entry c.requires.flow c.requires.is).fits

pub invariant_of-result : goal.invariant_of-result
invariant_of-result c = record {
  sound = sound_chart _ c.args.entry c.requires.flow c.requires.is;
  lookup = c.in-Ok.ensures.lookup;
  fits = fits_first _ c.args.entry c.requires.flow c.requires.is c.in-Ok.room.parts.cells.values c.in-Ok.room.parts.windows c.in-Ok.room.parts.streams c.args.input.now c.in-Ok.ensures.cells c.in-Ok.ensures.shape c.in-Ok.ensures.streams;
}

pub returns-in-Ok-clause-state : goal.returns-in-Ok-clause-state
returns-in-Ok-clause-state c = λ f frames h.
    let parts = c.in-Ok.room.parts in
    begins_as _ c.args.entry f h parts.cells.values parts.windows c.args.space c.sequential-point.result parts.calls parts.streams frames c.args.input.now
    c.in-Ok.ensures.cells c.in-Ok.ensures.none c.in-Ok.ensures.streams c.sequential-point.ensures c.in-Ok.ensures.calls

pub returns-in-Ok-clause-runs : goal.returns-in-Ok-clause-runs
returns-in-Ok-clause-runs c = λ f h.
    begins_at _ c.args.entry f h _ c.sequential-point.ensures c.in-Ok.ensures.calls (node_place _ c.in-Ok.room.lookup c.in-Ok.ensures.lookup _ c.place_of-place.result c.place_of-place.ensures)

pub returns-in-Ok-clause-ready : goal.returns-in-Ok-clause-ready
returns-in-Ok-clause-ready c = record { going = refl; empty = ap (λ f. f.pending) c.in-Ok.ensures.streams }
