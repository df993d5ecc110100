use Rattle.std.proofs.Common.{◌≡◌, ◌+◌, length, drop}
use Rattle.rtl_core.specs.Windows.{put_cells}
use Rattle.rtl_meaning.proofs.window_moves.put_values.Given as goal

abbrev pub invariant-loop-i : goal.invariant-loop-i
invariant-loop-i l = record {
  count : length l.cells.values ≡ length l.initial.cells.values;
  written : put_cells (l.first + l.i) (drop l.i l.values) l.cells.values ≡ put_cells l.first l.values l.initial.cells.values;
}
