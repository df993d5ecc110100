use Rattle.std.proofs.Common.{◌∷◌, []}
use Rattle.std.proofs.lemmas.Result.{on_ok_weaker, on_err_weaker}
use Rattle.c_text.specs.Tokens.{mark}
use Rattle.c_text.proofs.Rows.{zero_bytes}
use Rattle.c_text.proofs.Written.{wrote_both, broke_then, broke_here, wrote_as, broke_as, any_err}
use Rattle.c_text.proofs.items.put_all_bytes.Goals as goal

pub returns-in_err-put_front_bytes-clause-broke : goal.returns-in_err-put_front_bytes-clause-broke
returns-in_err-put_front_bytes-clause-broke g c = any_err _ (broke_as (zero_bytes c.args.bytes.now c.in-Some.front.now c.in-Some.last.now (mark "}" ∷ mark ";" ∷ []) c.in-Some.ensures.cases.0) (broke_here _ c.in_err-put_front_bytes.ensures.broke))

pub returns-clause-wrote : goal.returns-clause-wrote
returns-clause-wrote g c = on_ok_weaker c.put_plain-2.result (λ f. wrote_as (zero_bytes c.args.bytes.now c.in-Some.front.now c.in-Some.last.now (mark "}" ∷ mark ";" ∷ []) c.in-Some.ensures.cases.0) (wrote_both c.in_ok-put_front_bytes.ensures.wrote f)) c.put_plain-2.ensures.wrote

pub returns-clause-broke : goal.returns-clause-broke
returns-clause-broke g c = on_err_weaker c.put_plain-2.result (λ f. broke_as (zero_bytes c.args.bytes.now c.in-Some.front.now c.in-Some.last.now (mark "}" ∷ mark ";" ∷ []) c.in-Some.ensures.cases.0) (broke_then c.in_ok-put_front_bytes.ensures.wrote f)) c.put_plain-2.ensures.broke
