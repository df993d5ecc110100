use Rattle.std.proofs.Common.{◌≡◌, ◌++◌}
use Rattle.points.specs.Summaries.{cells_in_row}
use Rattle.params.proofs.named.add_row.Given as goal

abbrev pub invariant-loop-i : goal.invariant-loop-i
invariant-loop-i l = l.cells ≡ l.fn.cells ++ cells_in_row l.first l.i
