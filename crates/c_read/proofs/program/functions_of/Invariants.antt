use Rattle.std.proofs.Common.{length}
use Rattle.c_read.proofs.PopLaws.{Popped}
use Rattle.c_read.proofs.program.functions_of.Given as goal

abbrev pub invariant-more : goal.invariant-more
invariant-more l = Popped l.fn.routines l.left l.functions.items

abbrev pub decreases-more : goal.decreases-more
decreases-more l = length l.left
