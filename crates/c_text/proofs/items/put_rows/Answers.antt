use Rattle.std.proofs.Common.{ap, sym, ◌++◌, ◌∷◌, []}
use Rattle.std.proofs.lemmas.Result.{on_ok_weaker, on_err_weaker}
use Rattle.c_text.specs.Tokens.{mark, plain}
use Rattle.c_text.specs.Expressions.{listed}
use Rattle.c_text.proofs.Rows.{zero_rows}
use Rattle.c_text.proofs.Written.{wrote_both, broke_then, broke_here, wrote_as, broke_as, any_err}
use Rattle.c_text.proofs.items.put_rows.Goals as goal

pub returns-in_err-put_front_rows-clause-broke : goal.returns-in_err-put_front_rows-clause-broke
returns-in_err-put_front_rows-clause-broke g c = any_err _ (broke_as (zero_rows c.args.segments.now c.in-Some.front.now c.in-Some.last.now (mark "}" ∷ mark ";" ∷ []) c.in-Some.ensures.cases.0) (broke_here _ c.in_err-put_front_rows.ensures.broke))

pub returns-clause-wrote : goal.returns-clause-wrote
returns-clause-wrote g c = on_ok_weaker c.put_numbers.result (λ f. wrote_as (zero_rows c.args.segments.now c.in-Some.front.now c.in-Some.last.now (mark "}" ∷ mark ";" ∷ []) c.in-Some.ensures.cases.0) (wrote_both c.in_ok-put_front_rows.ensures.wrote (wrote_as (ap (λ ns. listed (λ n. plain n ∷ []) ns ++ mark "}" ∷ mark ";" ∷ []) (sym c.segment_numbers.ensures)) f))) c.put_numbers.ensures.wrote

pub returns-clause-broke : goal.returns-clause-broke
returns-clause-broke g c = on_err_weaker c.put_numbers.result (λ f. broke_as (zero_rows c.args.segments.now c.in-Some.front.now c.in-Some.last.now (mark "}" ∷ mark ";" ∷ []) c.in-Some.ensures.cases.0) (broke_then c.in_ok-put_front_rows.ensures.wrote (broke_as (ap (λ ns. listed (λ n. plain n ∷ []) ns ++ mark "}" ∷ mark ";" ∷ []) (sym c.segment_numbers.ensures)) f))) c.put_numbers.ensures.broke
