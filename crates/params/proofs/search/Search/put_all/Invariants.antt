use Rattle.std.proofs.Common.{take}
use Rattle.params.specs.Leading.{IsPut}
use Rattle.params.proofs.search.Search.put_all.Given as goal

abbrev pub invariant-loop-place : goal.invariant-loop-place
invariant-loop-place l = IsPut (take l.place-index l.places) l.fn.self.marks l.self.marks l.fn.self.waiting l.self.waiting
