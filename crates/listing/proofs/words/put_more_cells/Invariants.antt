use Rattle.std.proofs.Common.{take}
use Rattle.std.specs.List.{flat_map}
use Rattle.listing.specs.Lists.{behind_comma}
use Rattle.c_text.specs.Output.{Took}
use Rattle.listing.proofs.words.put_more_cells.Given as goal

abbrev pub invariant-loop-cell : goal.invariant-loop-cell
invariant-loop-cell g l = Took (g.K.Sink.output l.initial.out) (g.K.Sink.output l.out) (flat_map behind_comma (take l.cell-index l.more))
