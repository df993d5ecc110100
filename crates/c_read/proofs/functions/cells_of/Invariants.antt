use Rattle.std.proofs.Common.{◌-◌, length}
use Rattle.c_read.proofs.DeclaredLaws.{InCells}
use Rattle.c_read.proofs.functions.cells_of.Given as goal

abbrev pub invariant-more : goal.invariant-more
invariant-more l = InCells l.variables l.cells

abbrev pub decreases-more : goal.decreases-more
decreases-more l = length l.variables - length l.cells
