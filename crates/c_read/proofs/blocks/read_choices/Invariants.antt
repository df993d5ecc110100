use Rattle.std.proofs.Common.{length}
use Rattle.c_text.specs.Tokens.{word}
use Rattle.c_scan.specs.Readings.{at}
use Rattle.c_read.specs.Blocks.{read_choice, default}
use Rattle.c_read.proofs.Loops.{Midway}
use Rattle.c_read.proofs.blocks.read_choices.Given as goal

abbrev pub invariant-more : goal.invariant-more
invariant-more l = Midway (at (word "case")) read_choice default.read l.fn.cursor l.cases l.cursor

abbrev pub decreases-more : goal.decreases-more
decreases-more l = length l.cursor
