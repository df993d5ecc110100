use Rattle.std.proofs.Common.{◌≡◌, ◌++◌, []}
use Rattle.c_lower.specs.Lowered.{cleared}
use Rattle.c_lower.proofs.window_moves.clear_cells.Given as goal

abbrev pub invariant-loop-j : goal.invariant-loop-j
invariant-loop-j l = l.out ≡ l.fn.out ++ cleared l.first l.j []
