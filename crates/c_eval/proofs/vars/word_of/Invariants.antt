use Rattle.std.proofs.Common.{◌≡◌, take}
use Rattle.c_eval.specs.Plain.{word_at}
use Rattle.c_eval.proofs.vars.word_of.Given as goal

abbrev pub invariant-loop-w : goal.invariant-loop-w
invariant-loop-w l = l.value ≡ word_at (take l.w-index l.words) l.index
