use Rattle.std.proofs.Common.{◌≡◌, ◌++◌, []}
use Rattle.c_lower.specs.Lowered.{popped}
use Rattle.c_lower.proofs.window_moves.pop_words.Given as goal

abbrev pub invariant-loop-j : goal.invariant-loop-j
invariant-loop-j l = l.out ≡ l.fn.out ++ popped l.i l.first l.j []
