use Rattle.std.proofs.Common.{◌≡◌, ◌++◌, []}
use Rattle.c_lower.specs.Lowered.{moved}
use Rattle.c_lower.proofs.window_moves.move_cells.Given as goal

abbrev pub invariant-loop-j : goal.invariant-loop-j
invariant-loop-j l = l.out ≡ l.fn.out ++ moved l.from l.to l.j []
