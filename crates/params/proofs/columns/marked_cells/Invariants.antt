use Rattle.std.proofs.Common.{◌≡◌}
use Rattle.std.specs.Prelude.{filter}
use Rattle.std.specs.List.{range_with_len}
use Rattle.params.specs.Cells.{is_chosen}
use Rattle.params.proofs.columns.marked_cells.Given as goal

abbrev pub invariant-loop-cell : goal.invariant-loop-cell
invariant-loop-cell l = l.cells ≡ filter (is_chosen l.columns l.zero l.place) (range_with_len 0 l.cell)
