use Rattle.std.proofs.Common.{◌≡◌, ◌++◌, []}
use Rattle.c_lower.specs.Lowered.{pushed}
use Rattle.c_lower.proofs.window_moves.push_words.Given as goal

abbrev pub invariant-loop-j : goal.invariant-loop-j
invariant-loop-j l = l.out ≡ l.fn.out ++ pushed l.i l.first l.j []
