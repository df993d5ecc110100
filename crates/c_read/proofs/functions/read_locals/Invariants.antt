use Rattle.std.proofs.Common.{length}
use Rattle.c_text.specs.Tokens.{mark, word}
use Rattle.c_scan.specs.Readings.{at}
use Rattle.c_read.specs.Blocks.{block_syntax}
use Rattle.c_read.specs.Combined.{many_until}
use Rattle.c_read.specs.Functions.{local}
use Rattle.c_read.proofs.Loops.{Midway}
use Rattle.c_read.proofs.functions.read_locals.Given as goal

abbrev pub invariant-more : goal.invariant-more
invariant-more l = Midway (at (word "u64")) local.read (many_until (mark "}") block_syntax).read l.fn.cursor l.variables l.cursor

abbrev pub decreases-more : goal.decreases-more
decreases-more l = length l.cursor
