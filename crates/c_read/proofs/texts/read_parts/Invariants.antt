use Rattle.std.proofs.Common.{length}
use Rattle.c_read.proofs.Reading.{Reading}
use Rattle.c_read.proofs.texts.read_parts.Given as goal

abbrev pub invariant-more : goal.invariant-more
invariant-more l = Reading l.fn.cursor l.stage l.cursor l.draft l.index

abbrev pub decreases-more : goal.decreases-more
decreases-more l = length l.cursor
