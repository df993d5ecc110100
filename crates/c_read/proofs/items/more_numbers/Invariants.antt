use Rattle.std.proofs.Common.{length}
use Rattle.c_text.specs.Tokens.{mark}
use Rattle.c_scan.specs.Readings.{at, number_below}
use Rattle.c_read.specs.Combined.{before}
use Rattle.c_read.proofs.Loops.{MidwayTo}
use Rattle.c_read.proofs.items.more_numbers.Given as goal

abbrev pub invariant-more : goal.invariant-more
invariant-more l = MidwayTo (at (mark ",")) (before (mark ",") (number_below l.bound)) (mark "}") l.fn.cursor l.numbers l.cursor

abbrev pub decreases-more : goal.decreases-more
decreases-more l = length l.cursor
