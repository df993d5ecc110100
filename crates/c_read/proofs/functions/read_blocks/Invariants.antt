use Rattle.std.proofs.Common.{length}
use Rattle.std.specs.Prelude.{not}
use Rattle.c_text.specs.Tokens.{mark}
use Rattle.c_scan.specs.Readings.{at, exactly}
use Rattle.c_read.specs.Blocks.{read_block}
use Rattle.c_read.proofs.Loops.{Midway}
use Rattle.c_read.proofs.functions.read_blocks.Given as goal

abbrev pub invariant-more : goal.invariant-more
invariant-more l = Midway (λ ts. not (at (mark "}") ts)) read_block ((exactly (mark "}")).read) l.fn.cursor l.blocks l.cursor

abbrev pub decreases-more : goal.decreases-more
decreases-more l = length l.cursor
