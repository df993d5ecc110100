use Rattle.c_text.proofs.Written.{wrote_nothing, wrote_both, broke_then, any_err}
use Rattle.c_text.proofs.statements.put_indent.Goals as goal

pub loop-init : goal.loop-init
loop-init g c = wrote_nothing

pub returns-in_err-put_gap-clause-broke : goal.returns-in_err-put_gap-clause-broke
returns-in_err-put_gap-clause-broke g c = any_err _ (broke_then c.loop.invariant c.in_err-put_gap.ensures.broke)

pub loop-preserved : goal.loop-preserved
loop-preserved g c = wrote_both c.loop.invariant c.in_ok-put_gap.ensures.wrote
