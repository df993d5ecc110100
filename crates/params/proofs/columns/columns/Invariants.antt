use Rattle.std.proofs.Common.{take}
use Rattle.params.specs.Leading.{AreColumns}
use Rattle.params.proofs.columns.columns.Given as goal

abbrev pub invariant-loop-places : goal.invariant-loop-places
invariant-loop-places l = AreColumns l.rows l.openers (take l.places-index l.given) l.columns.items
