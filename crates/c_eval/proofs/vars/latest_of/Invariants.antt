use Rattle.std.proofs.Common.{◌≡◌, take}
use Rattle.c_eval.specs.Plain.{latest}
use Rattle.c_eval.proofs.vars.latest_of.Given as goal

abbrev pub invariant-loop-x : goal.invariant-loop-x
invariant-loop-x l = l.value ≡ latest l.fn.first l.v (take l.x-index l.xs)
