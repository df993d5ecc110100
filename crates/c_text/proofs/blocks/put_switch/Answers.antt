use Rattle.std.proofs.lemmas.Result.{on_ok_weaker, on_err_weaker}
use Rattle.c_text.proofs.Written.{wrote_both, broke_then, broke_here, any_err}
use Rattle.c_text.proofs.blocks.put_switch.Goals as goal

pub returns-in_err-put_switch_head-clause-broke : goal.returns-in_err-put_switch_head-clause-broke
returns-in_err-put_switch_head-clause-broke g c = any_err _ (broke_here _ c.in_err-put_switch_head.ensures.broke)

pub returns-in_err-put_cases-clause-broke : goal.returns-in_err-put_cases-clause-broke
returns-in_err-put_cases-clause-broke g c = any_err _ (broke_then c.in_ok-put_switch_head.ensures.wrote (broke_here _ c.in_err-put_cases.ensures.broke))

pub returns-clause-wrote : goal.returns-clause-wrote
returns-clause-wrote g c = on_ok_weaker c.put_default.result (λ f. wrote_both c.in_ok-put_switch_head.ensures.wrote (wrote_both c.in_ok-put_cases.ensures.wrote f)) c.put_default.ensures.wrote

pub returns-clause-broke : goal.returns-clause-broke
returns-clause-broke g c = on_err_weaker c.put_default.result (λ f. broke_then c.in_ok-put_switch_head.ensures.wrote (broke_then c.in_ok-put_cases.ensures.wrote f)) c.put_default.ensures.broke
