use Rattle.std.proofs.Common.{take}
use Rattle.std.specs.List.{flat_map}
use Rattle.listing.specs.Words.{address_behind}
use Rattle.c_text.specs.Output.{Took}
use Rattle.listing.proofs.words.put_addresses.Given as goal

abbrev pub invariant-loop-address : goal.invariant-loop-address
invariant-loop-address g l = Took (g.K.Sink.output l.initial.out) (g.K.Sink.output l.out) (flat_map address_behind (take l.address-index l.addresses))
