use Rattle.std.proofs.Common.{◌≡◌, take}
use Rattle.c_eval.proofs.copy.copy_exprs.Given as goal

abbrev pub invariant-loop-x : goal.invariant-loop-x
invariant-loop-x l = l.out ≡ take l.x-index l.xs
