use Rattle.std.proofs.Common.{take}
use Rattle.std.specs.List.{flat_map}
use Rattle.listing.specs.Lists.{place_text}
use Rattle.c_text.specs.Output.{Took}
use Rattle.listing.proofs.list.put_body.Given as goal

abbrev pub invariant-loop-place : goal.invariant-loop-place
invariant-loop-place g l = Took (g.K.Sink.output l.initial.out) (g.K.Sink.output l.out) (flat_map (place_text l.graph) (take l.place-index l.body))
