use Rattle.std.proofs.Common.{ap, ◌∙◌, ◌++◌, ◌∷◌, []}
use Rattle.std.proofs.lemmas.Result.{on_ok_weaker, on_err_weaker}
use Rattle.c_text.specs.Tokens.{mark, long}
use Rattle.c_text.specs.Expressions.{commas}
use Rattle.c_text.specs.Items.{no_address}
use Rattle.c_text.proofs.Rows.{commas_last}
use Rattle.c_text.proofs.Written.{wrote_both, broke_then, broke_here, wrote_as, broke_as, any_err}
use Rattle.c_text.proofs.items.put_values.Goals as goal

pub returns-in_err-put_long-clause-broke : goal.returns-in_err-put_long-clause-broke
returns-in_err-put_long-clause-broke g c = any_err _ (broke_as (ap (λ ns. long no_address ∷ (commas (λ n. long n ∷ []) ns ++ (mark ")" ∷ mark ";" ∷ mark "}" ∷ []))) c.in-Some.ensures.cases.0 ∙ ap (λ ts. long no_address ∷ ts) (commas_last (λ n. long n ∷ []) c.in-Some.front.now c.in-Some.last.now (mark ")" ∷ mark ";" ∷ mark "}" ∷ []))) (broke_here _ c.in_err-put_long.ensures.broke))

pub returns-in_err-put_front_values-clause-broke : goal.returns-in_err-put_front_values-clause-broke
returns-in_err-put_front_values-clause-broke g c = any_err _ (broke_as (ap (λ ns. long no_address ∷ (commas (λ n. long n ∷ []) ns ++ (mark ")" ∷ mark ";" ∷ mark "}" ∷ []))) c.in-Some.ensures.cases.0 ∙ ap (λ ts. long no_address ∷ ts) (commas_last (λ n. long n ∷ []) c.in-Some.front.now c.in-Some.last.now (mark ")" ∷ mark ";" ∷ mark "}" ∷ []))) (broke_then c.in_ok-put_long.ensures.wrote (broke_here _ c.in_err-put_front_values.ensures.broke)))

pub returns-clause-wrote : goal.returns-clause-wrote
returns-clause-wrote g c = on_ok_weaker c.put_long-3.result (λ f. wrote_as (ap (λ ns. long no_address ∷ (commas (λ n. long n ∷ []) ns ++ (mark ")" ∷ mark ";" ∷ mark "}" ∷ []))) c.in-Some.ensures.cases.0 ∙ ap (λ ts. long no_address ∷ ts) (commas_last (λ n. long n ∷ []) c.in-Some.front.now c.in-Some.last.now (mark ")" ∷ mark ";" ∷ mark "}" ∷ []))) (wrote_both c.in_ok-put_long.ensures.wrote (wrote_both c.in_ok-put_front_values.ensures.wrote f))) c.put_long-3.ensures.wrote

pub returns-clause-broke : goal.returns-clause-broke
returns-clause-broke g c = on_err_weaker c.put_long-3.result (λ f. broke_as (ap (λ ns. long no_address ∷ (commas (λ n. long n ∷ []) ns ++ (mark ")" ∷ mark ";" ∷ mark "}" ∷ []))) c.in-Some.ensures.cases.0 ∙ ap (λ ts. long no_address ∷ ts) (commas_last (λ n. long n ∷ []) c.in-Some.front.now c.in-Some.last.now (mark ")" ∷ mark ";" ∷ mark "}" ∷ []))) (broke_then c.in_ok-put_long.ensures.wrote (broke_then c.in_ok-put_front_values.ensures.wrote f))) c.put_long-3.ensures.broke
