use Rattle.std.proofs.Common.{length}
use Rattle.c_text.specs.Tokens.{mark}
use Rattle.c_scan.specs.Readings.{at}
use Rattle.c_read.specs.Combined.{before}
use Rattle.c_read.specs.Functions.{param}
use Rattle.c_read.proofs.Loops.{MidwayTo}
use Rattle.c_read.proofs.functions.read_params.Given as goal

abbrev pub invariant-more : goal.invariant-more
invariant-more l = MidwayTo (at (mark ",")) (before (mark ",") param) (mark ")") l.fn.cursor l.params l.cursor

abbrev pub decreases-more : goal.decreases-more
decreases-more l = length l.cursor
