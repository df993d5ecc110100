use Rattle.std.proofs.Common.{ap, sym, ◌++◌, ◌∷◌, []}
use Rattle.std.proofs.lemmas.Result.{on_ok_weaker, on_err_weaker}
use Rattle.c_text.specs.Tokens.{plain, mark}
use Rattle.c_text.specs.Expressions.{listed}
use Rattle.c_text.proofs.Written.{wrote_both, broke_then, broke_here, wrote_as, broke_as, any_err}
use Rattle.c_text.proofs.items.put_machine.Goals as goal

pub returns-in_err-put_array-clause-broke : goal.returns-in_err-put_array-clause-broke
returns-in_err-put_array-clause-broke g c = any_err _ (broke_here _ c.in_err-put_array.ensures.broke)

pub returns-clause-wrote : goal.returns-clause-wrote
returns-clause-wrote g c = on_ok_weaker c.put_numbers.result (λ f. wrote_both c.in_ok-put_array.ensures.wrote (wrote_as (ap (λ ns. listed (λ n. plain n ∷ []) ns ++ mark "}" ∷ mark ";" ∷ []) (sym c.header_numbers.ensures)) f)) c.put_numbers.ensures.wrote

pub returns-clause-broke : goal.returns-clause-broke
returns-clause-broke g c = on_err_weaker c.put_numbers.result (λ f. broke_then c.in_ok-put_array.ensures.wrote (broke_as (ap (λ ns. listed (λ n. plain n ∷ []) ns ++ mark "}" ∷ mark ";" ∷ []) (sym c.header_numbers.ensures)) f)) c.put_numbers.ensures.broke
