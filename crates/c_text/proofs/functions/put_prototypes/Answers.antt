use Rattle.std.proofs.Common.{arith, ap, sym}
use Rattle.c_text.proofs.Parts.{declared_toks}
use Rattle.c_text.proofs.Loops.{wrote_next, broke_next, wrote_end}
use Rattle.c_text.proofs.Written.{wrote_nothing, wrote_as, broke_as, any_err}
use Rattle.c_text.proofs.functions.put_prototypes.Goals as goal

pub loop-function-init : goal.loop-function-init
loop-function-init g c = wrote_nothing

pub returns-in_err-put_prototype-clause-broke : goal.returns-in_err-put_prototype-clause-broke
returns-in_err-put_prototype-clause-broke g c = any_err _ (broke_next declared_toks c.args.functions.now c.loop-function.function-index c.function-item.result (omega arith) c.loop-function.invariant (broke_as (ap declared_toks (sym c.function-item.is)) c.in_err-put_prototype.ensures.broke))

pub loop-function-preserved : goal.loop-function-preserved
loop-function-preserved g c = wrote_next declared_toks c.args.functions.now c.loop-function.function-index c.function-item.result (omega arith) c.loop-function.invariant (wrote_as (ap declared_toks (sym c.function-item.is)) c.in_ok-put_prototype.ensures.wrote)

pub returns-clause-wrote : goal.returns-clause-wrote
returns-clause-wrote g c = wrote_end declared_toks c.args.functions.now c.loop-function.function-index c.loop-function-test.false c.loop-function.invariant
