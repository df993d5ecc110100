use Rattle.std.proofs.Common.{length}
use Rattle.c_eval.proofs.calls.+cells_set.Given as goal

abbrev pub decreases-cells_set : goal.decreases-cells_set
decreases-cells_set l = length l.cells.now
