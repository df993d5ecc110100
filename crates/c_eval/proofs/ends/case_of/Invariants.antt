use Rattle.std.proofs.Common.{◌≡◌, drop}
use Rattle.c_lang.specs.Step.{case_of}
use Rattle.c_eval.proofs.ends.case_of.Given as goal

abbrev pub invariant-loop-c : goal.invariant-loop-c
invariant-loop-c l = case_of (drop l.c-index l.cases) l.n ≡ case_of l.cases l.n
