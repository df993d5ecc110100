use Rattle.std.proofs.lemmas.Result.{on_ok_weaker, on_err_weaker}
use Rattle.c_text.proofs.Parts.{function_parts}
use Rattle.c_text.proofs.Written.{wrote_both, broke_then, broke_here, wrote_as, broke_as, any_err}
use Rattle.c_text.proofs.functions.put_function.Goals as goal

pub returns-in_err-put_head-clause-broke : goal.returns-in_err-put_head-clause-broke
returns-in_err-put_head-clause-broke g c = any_err _ (broke_as (function_parts c.args.function.now) (broke_here _ c.in_err-put_head.ensures.broke))

pub returns-clause-wrote : goal.returns-clause-wrote
returns-clause-wrote g c = on_ok_weaker c.put_body.result (λ f. wrote_as (function_parts c.args.function.now) (wrote_both c.in_ok-put_head.ensures.wrote f)) c.put_body.ensures.wrote

pub returns-clause-broke : goal.returns-clause-broke
returns-clause-broke g c = on_err_weaker c.put_body.result (λ f. broke_as (function_parts c.args.function.now) (broke_then c.in_ok-put_head.ensures.wrote f)) c.put_body.ensures.broke
