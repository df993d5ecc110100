use Rattle.std.proofs.Common.{arith}
use Rattle.c_text.specs.Blocks.{case_toks}
use Rattle.c_text.proofs.Loops.{wrote_next, broke_next, wrote_end}
use Rattle.c_text.proofs.Written.{wrote_nothing, any_err}
use Rattle.c_text.proofs.blocks.put_cases.Goals as goal

pub loop-case-init : goal.loop-case-init
loop-case-init g c = wrote_nothing

pub returns-in_err-put_case-clause-broke : goal.returns-in_err-put_case-clause-broke
returns-in_err-put_case-clause-broke g c = any_err _ (broke_next (case_toks) c.args.cases.now c.loop-case.case-index _ (omega arith) c.loop-case.invariant c.in_err-put_case.ensures.broke)

pub loop-case-preserved : goal.loop-case-preserved
loop-case-preserved g c = wrote_next (case_toks) c.args.cases.now c.loop-case.case-index _ (omega arith) c.loop-case.invariant c.in_ok-put_case.ensures.wrote

pub returns-clause-wrote : goal.returns-clause-wrote
returns-clause-wrote g c = wrote_end (case_toks) c.args.cases.now c.loop-case.case-index c.loop-case-test.false c.loop-case.invariant
