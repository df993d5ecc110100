use Rattle.std.proofs.lemmas.Result.{on_ok_weaker, on_err_weaker}
use Rattle.c_text.proofs.Written.{wrote_both, broke_then, broke_here, any_err}
use Rattle.c_text.proofs.functions.put_typed.Goals as goal

pub returns-in_err-put_name-clause-broke : goal.returns-in_err-put_name-clause-broke
returns-in_err-put_name-clause-broke g c = any_err _ (broke_here _ c.in_err-put_name.ensures.broke)

pub returns-clause-wrote : goal.returns-clause-wrote
returns-clause-wrote g c = on_ok_weaker c.put_variable.result (λ f. wrote_both c.in_ok-put_name.ensures.wrote f) c.put_variable.ensures.wrote

pub returns-clause-broke : goal.returns-clause-broke
returns-clause-broke g c = on_err_weaker c.put_variable.result (λ f. broke_then c.in_ok-put_name.ensures.wrote f) c.put_variable.ensures.broke
