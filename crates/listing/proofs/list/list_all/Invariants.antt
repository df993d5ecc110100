use Rattle.std.proofs.Common.{take}
use Rattle.std.specs.List.{flat_map, zip}
use Rattle.listing.specs.Lists.{proc_text}
use Rattle.c_text.specs.Output.{Took}
use Rattle.listing.proofs.list.list_all.Given as goal

abbrev pub invariant-loop-place : goal.invariant-loop-place
invariant-loop-place g l = Took (g.K.Sink.output l.initial.out) (g.K.Sink.output l.out) (flat_map (λ ps. proc_text l.graph ps.0 ps.1) (take l.place (zip l.graph.procs l.sums)))
