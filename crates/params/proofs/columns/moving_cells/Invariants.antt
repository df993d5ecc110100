use Rattle.std.proofs.Common.{◌≡◌}
use Rattle.params.specs.Cells.{moving_cells}
use Rattle.params.proofs.columns.moving_cells.Given as goal

abbrev pub invariant-loop-cell : goal.invariant-loop-cell
invariant-loop-cell l = l.cells ≡ moving_cells l.cell l.zero
