use Rattle.std.proofs.Common.{◌≡◌, ◌++◌}
use Rattle.rtl_core.specs.Windows.{cells_from}
use Rattle.rtl_meaning.proofs.window_moves.read_cells.Given as goal

abbrev pub invariant-loop-i : goal.invariant-loop-i
invariant-loop-i l = l.into ≡ l.fn.into ++ cells_from l.first l.i l.cells.values
