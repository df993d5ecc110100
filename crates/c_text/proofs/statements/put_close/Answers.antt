use Rattle.std.proofs.lemmas.Result.{on_ok_weaker, on_err_weaker}
use Rattle.c_text.proofs.Written.{wrote_both, broke_then, broke_here, any_err}
use Rattle.c_text.proofs.statements.put_close.Goals as goal

pub returns-in_err-put_indent-clause-broke : goal.returns-in_err-put_indent-clause-broke
returns-in_err-put_indent-clause-broke g c = any_err _ (broke_here _ c.in_err-put_indent.ensures.broke)

pub returns-clause-wrote : goal.returns-clause-wrote
returns-clause-wrote g c = on_ok_weaker c.put_gap.result (λ f. wrote_both c.in_ok-put_indent.ensures.wrote f) c.put_gap.ensures.wrote

pub returns-clause-broke : goal.returns-clause-broke
returns-clause-broke g c = on_err_weaker c.put_gap.result (λ f. broke_then c.in_ok-put_indent.ensures.wrote f) c.put_gap.ensures.broke
