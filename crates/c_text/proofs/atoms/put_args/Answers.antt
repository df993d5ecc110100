use Rattle.std.proofs.Common.{ap, ◌∙◌, ◌++◌}
use Rattle.std.proofs.lemmas.Result.{on_ok_weaker, on_err_weaker}
use Rattle.c_text.specs.Expressions.{expr_toks, listed}
use Rattle.c_text.specs.Gaps.{gap_toks}
use Rattle.c_text.proofs.Rows.{listed_last}
use Rattle.c_text.proofs.Written.{wrote_both, broke_then, broke_here, wrote_as, broke_as, any_err}
use Rattle.c_text.proofs.atoms.put_args.Goals as goal

pub returns-in_err-put_front_args-clause-broke : goal.returns-in_err-put_front_args-clause-broke
returns-in_err-put_front_args-clause-broke g c =
    any_err _ (broke_as (ap (λ es. listed expr_toks es ++ gap_toks c.args.gap.now) c.in-Some.ensures.cases.0 ∙ listed_last expr_toks c.in-Some.front.now c.in-Some.last.now (gap_toks c.args.gap.now))
    (broke_here _ c.in_err-put_front_args.ensures.broke))

pub returns-clause-wrote : goal.returns-clause-wrote
returns-clause-wrote g c =
    on_ok_weaker c.put_expr.result
    (λ f. wrote_as (ap (λ es. listed expr_toks es ++ gap_toks c.args.gap.now) c.in-Some.ensures.cases.0 ∙ listed_last expr_toks c.in-Some.front.now c.in-Some.last.now (gap_toks c.args.gap.now))
    (wrote_both c.in_ok-put_front_args.ensures.wrote f)) c.put_expr.ensures.wrote

pub returns-clause-broke : goal.returns-clause-broke
returns-clause-broke g c =
    on_err_weaker c.put_expr.result
    (λ f. broke_as (ap (λ es. listed expr_toks es ++ gap_toks c.args.gap.now) c.in-Some.ensures.cases.0 ∙ listed_last expr_toks c.in-Some.front.now c.in-Some.last.now (gap_toks c.args.gap.now))
    (broke_then c.in_ok-put_front_args.ensures.wrote f)) c.put_expr.ensures.broke
