use Rattle.std.proofs.Common.{ap, ◌∙◌, ◌++◌}
use Rattle.std.proofs.lemmas.Result.{on_ok_weaker, on_err_weaker}
use Rattle.c_lang.specs.declared.tree.Var.TheVariants.{Ra, Cell}
use Rattle.c_text.specs.Expressions.{commas}
use Rattle.c_text.specs.Functions.{typed_toks}
use Rattle.c_text.specs.Gaps.{gap_toks}
use Rattle.c_text.proofs.Rows.{commas_last}
use Rattle.c_text.proofs.Written.{wrote_both, broke_then, broke_here, wrote_as, broke_as, any_err}
use Rattle.c_text.proofs.functions.put_params.Goals as goal

pub returns-in_err-put_typed-clause-broke : goal.returns-in_err-put_typed-clause-broke
returns-in_err-put_typed-clause-broke g c = any_err _ (broke_as (ap (λ is. typed_toks Ra ++ (commas (λ i. typed_toks (Cell i)) is ++ gap_toks c.args.gap.now)) c.in-Some.ensures.cases.0 ∙ ap (λ ts. typed_toks Ra ++ ts) (commas_last (λ i. typed_toks (Cell i)) c.in-Some.front.now c.in-Some.last.now (gap_toks c.args.gap.now))) (broke_here _ c.in_err-put_typed.ensures.broke))

pub returns-in_err-put_front_params-clause-broke : goal.returns-in_err-put_front_params-clause-broke
returns-in_err-put_front_params-clause-broke g c = any_err _ (broke_as (ap (λ is. typed_toks Ra ++ (commas (λ i. typed_toks (Cell i)) is ++ gap_toks c.args.gap.now)) c.in-Some.ensures.cases.0 ∙ ap (λ ts. typed_toks Ra ++ ts) (commas_last (λ i. typed_toks (Cell i)) c.in-Some.front.now c.in-Some.last.now (gap_toks c.args.gap.now))) (broke_then c.in_ok-put_typed.ensures.wrote (broke_here _ c.in_err-put_front_params.ensures.broke)))

pub returns-clause-wrote : goal.returns-clause-wrote
returns-clause-wrote g c = on_ok_weaker c.put_typed-3.result (λ f. wrote_as (ap (λ is. typed_toks Ra ++ (commas (λ i. typed_toks (Cell i)) is ++ gap_toks c.args.gap.now)) c.in-Some.ensures.cases.0 ∙ ap (λ ts. typed_toks Ra ++ ts) (commas_last (λ i. typed_toks (Cell i)) c.in-Some.front.now c.in-Some.last.now (gap_toks c.args.gap.now))) (wrote_both c.in_ok-put_typed.ensures.wrote (wrote_both c.in_ok-put_front_params.ensures.wrote f))) c.put_typed-3.ensures.wrote

pub returns-clause-broke : goal.returns-clause-broke
returns-clause-broke g c = on_err_weaker c.put_typed-3.result (λ f. broke_as (ap (λ is. typed_toks Ra ++ (commas (λ i. typed_toks (Cell i)) is ++ gap_toks c.args.gap.now)) c.in-Some.ensures.cases.0 ∙ ap (λ ts. typed_toks Ra ++ ts) (commas_last (λ i. typed_toks (Cell i)) c.in-Some.front.now c.in-Some.last.now (gap_toks c.args.gap.now))) (broke_then c.in_ok-put_typed.ensures.wrote (broke_then c.in_ok-put_front_params.ensures.wrote f))) c.put_typed-3.ensures.broke
