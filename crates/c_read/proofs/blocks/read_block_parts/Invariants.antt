use Rattle.std.proofs.Common.{length}
use Rattle.c_read.proofs.LineLoops.{MidwayParts}
use Rattle.c_read.proofs.blocks.read_block_parts.Given as goal

abbrev pub invariant-more : goal.invariant-more
invariant-more l = MidwayParts l.fn.cursor l.stmts l.cursor

abbrev pub decreases-more : goal.decreases-more
decreases-more l = length l.cursor
