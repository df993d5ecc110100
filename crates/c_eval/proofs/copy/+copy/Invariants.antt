use Rattle.std.proofs.Common.{◌≡◌, take}
use Rattle.c_eval.proofs.copy.+copy.Given as goal

abbrev pub invariant-copy_stmts-loop-x : goal.invariant-copy_stmts-loop-x
invariant-copy_stmts-loop-x l = l.out ≡ take l.x-index l.xs
