use Rattle.std.proofs.Common.{refl}
use Rattle.c_text.specs.Expressions.{op_sign}
use Rattle.std.proofs.lemmas.Result.{on_ok_weaker, on_err_weaker}
use Rattle.c_text.specs.Gaps.{gap_toks}
use Rattle.c_text.proofs.Spelled.{bin_parts, choose_parts, before_parts, last_parts}
use Rattle.c_text.proofs.Written.{wrote_both, broke_then, broke_here, wrote_as, broke_as, any_err}
use Rattle.c_text.proofs.expressions.+expr.Goals as goal

pub put_before-returns-clause-wrote : goal.put_before-returns-clause-wrote
put_before-returns-clause-wrote g t c = on_ok_weaker c.put_sign.result (λ f. wrote_as (before_parts c.args.expr.now c.args.bytes.now) (wrote_both c.in_ok-put_expr.ensures.wrote f)) c.put_sign.ensures.wrote

pub put_before-returns-clause-broke : goal.put_before-returns-clause-broke
put_before-returns-clause-broke g t c = on_err_weaker c.put_sign.result (λ f. broke_as (before_parts c.args.expr.now c.args.bytes.now) (broke_then c.in_ok-put_expr.ensures.wrote f)) c.put_sign.ensures.broke

pub put_expr-returns-in_err-put_gap-in-Bin-clause-broke : goal.put_expr-returns-in_err-put_gap-in-Bin-clause-broke
put_expr-returns-in_err-put_gap-in-Bin-clause-broke g t c =
    any_err _ (broke_as (bin_parts _ c.in-Bin.op c.in-Bin.left c.in-Bin.right c.in-Bin.left c.in-Bin.right (op_sign c.in-Bin.op) (gap_toks c.args.gap.now) c.in-Bin.is refl refl refl) (broke_here _ c.in_err-put_gap-in-Bin.ensures.broke))

pub put_expr-returns-in_err-put_before-in-Bin-clause-broke : goal.put_expr-returns-in_err-put_before-in-Bin-clause-broke
put_expr-returns-in_err-put_before-in-Bin-clause-broke g t c =
    any_err _ (broke_as (bin_parts _ c.in-Bin.op c.in-Bin.left c.in-Bin.right c.get.result.now c.in-Bin.right c.op_sign.result.now (gap_toks c.args.gap.now) c.in-Bin.is c.get.ensures c.op_sign.ensures.bytes refl) (broke_then c.in_ok-put_gap-in-Bin.ensures.wrote (broke_here _ c.in_err-put_before-in-Bin.ensures.broke)))

pub put_expr-returns-in_ok-put_before-in-Bin-clause-wrote : goal.put_expr-returns-in_ok-put_before-in-Bin-clause-wrote
put_expr-returns-in_ok-put_before-in-Bin-clause-wrote g t c =
    let parts = bin_parts _ c.in-Bin.op c.in-Bin.left c.in-Bin.right c.get.result.now c.get-in-Bin.result.now c.op_sign.result.now (gap_toks c.args.gap.now) c.in-Bin.is c.get.ensures c.op_sign.ensures.bytes c.get-in-Bin.ensures in
    on_ok_weaker c.put_last.result (λ f. wrote_as parts (wrote_both c.in_ok-put_gap-in-Bin.ensures.wrote (wrote_both c.in_ok-put_before-in-Bin.ensures.wrote f))) c.put_last.ensures.wrote

pub put_expr-returns-in_ok-put_before-in-Bin-clause-broke : goal.put_expr-returns-in_ok-put_before-in-Bin-clause-broke
put_expr-returns-in_ok-put_before-in-Bin-clause-broke g t c =
    let parts = bin_parts _ c.in-Bin.op c.in-Bin.left c.in-Bin.right c.get.result.now c.get-in-Bin.result.now c.op_sign.result.now (gap_toks c.args.gap.now) c.in-Bin.is c.get.ensures c.op_sign.ensures.bytes c.get-in-Bin.ensures in
    on_err_weaker c.put_last.result (λ f. broke_as parts (broke_then c.in_ok-put_gap-in-Bin.ensures.wrote (broke_then c.in_ok-put_before-in-Bin.ensures.wrote f))) c.put_last.ensures.broke

pub put_expr-returns-in_err-put_gap-in-Choose-clause-broke : goal.put_expr-returns-in_err-put_gap-in-Choose-clause-broke
put_expr-returns-in_err-put_gap-in-Choose-clause-broke g t c =
    any_err _ (broke_as (choose_parts _ c.in-Choose.test c.in-Choose.left c.in-Choose.right c.in-Choose.test c.in-Choose.left c.in-Choose.right (gap_toks c.args.gap.now) c.in-Choose.is refl refl refl) (broke_here _ c.in_err-put_gap-in-Choose.ensures.broke))

pub put_expr-returns-in_err-put_before-in-Choose-clause-broke : goal.put_expr-returns-in_err-put_before-in-Choose-clause-broke
put_expr-returns-in_err-put_before-in-Choose-clause-broke g t c =
    any_err _ (broke_as (choose_parts _ c.in-Choose.test c.in-Choose.left c.in-Choose.right c.get-in-Choose.result.now c.in-Choose.left c.in-Choose.right (gap_toks c.args.gap.now) c.in-Choose.is c.get-in-Choose.ensures refl refl) (broke_then c.in_ok-put_gap-in-Choose.ensures.wrote (broke_here _ c.in_err-put_before-in-Choose.ensures.broke)))

pub put_expr-returns-in_err-put_before-in-Choose-2-clause-broke : goal.put_expr-returns-in_err-put_before-in-Choose-2-clause-broke
put_expr-returns-in_err-put_before-in-Choose-2-clause-broke g t c =
    any_err _ (broke_as (choose_parts _ c.in-Choose.test c.in-Choose.left c.in-Choose.right c.get-in-Choose.result.now c.get-in-Choose-2.result.now c.in-Choose.right (gap_toks c.args.gap.now) c.in-Choose.is c.get-in-Choose.ensures c.get-in-Choose-2.ensures refl) (broke_then c.in_ok-put_gap-in-Choose.ensures.wrote (broke_then c.in_ok-put_before-in-Choose.ensures.wrote (broke_here _ c.in_err-put_before-in-Choose-2.ensures.broke))))

pub put_expr-returns-in_ok-put_before-in-Choose-2-clause-wrote : goal.put_expr-returns-in_ok-put_before-in-Choose-2-clause-wrote
put_expr-returns-in_ok-put_before-in-Choose-2-clause-wrote g t c =
    let parts = choose_parts _ c.in-Choose.test c.in-Choose.left c.in-Choose.right c.get-in-Choose.result.now c.get-in-Choose-2.result.now c.get-in-Choose-3.result.now (gap_toks c.args.gap.now) c.in-Choose.is c.get-in-Choose.ensures c.get-in-Choose-2.ensures c.get-in-Choose-3.ensures in
    on_ok_weaker c.put_last-in-Choose.result (λ f. wrote_as parts (wrote_both c.in_ok-put_gap-in-Choose.ensures.wrote (wrote_both c.in_ok-put_before-in-Choose.ensures.wrote (wrote_both c.in_ok-put_before-in-Choose-2.ensures.wrote f)))) c.put_last-in-Choose.ensures.wrote

pub put_expr-returns-in_ok-put_before-in-Choose-2-clause-broke : goal.put_expr-returns-in_ok-put_before-in-Choose-2-clause-broke
put_expr-returns-in_ok-put_before-in-Choose-2-clause-broke g t c =
    let parts = choose_parts _ c.in-Choose.test c.in-Choose.left c.in-Choose.right c.get-in-Choose.result.now c.get-in-Choose-2.result.now c.get-in-Choose-3.result.now (gap_toks c.args.gap.now) c.in-Choose.is c.get-in-Choose.ensures c.get-in-Choose-2.ensures c.get-in-Choose-3.ensures in
    on_err_weaker c.put_last-in-Choose.result (λ f. broke_as parts (broke_then c.in_ok-put_gap-in-Choose.ensures.wrote (broke_then c.in_ok-put_before-in-Choose.ensures.wrote (broke_then c.in_ok-put_before-in-Choose-2.ensures.wrote f)))) c.put_last-in-Choose.ensures.broke

pub put_last-returns-clause-wrote : goal.put_last-returns-clause-wrote
put_last-returns-clause-wrote g t c = on_ok_weaker c.put_gap.result (λ f. wrote_as (last_parts c.args.expr.now (gap_toks c.args.gap.now)) (wrote_both c.in_ok-put_expr.ensures.wrote f)) c.put_gap.ensures.wrote

pub put_last-returns-clause-broke : goal.put_last-returns-clause-broke
put_last-returns-clause-broke g t c = on_err_weaker c.put_gap.result (λ f. broke_as (last_parts c.args.expr.now (gap_toks c.args.gap.now)) (broke_then c.in_ok-put_expr.ensures.wrote f)) c.put_gap.ensures.broke

pub put_last-returns-in_err-put_expr-clause-broke : goal.put_last-returns-in_err-put_expr-clause-broke
put_last-returns-in_err-put_expr-clause-broke g t c = any_err _ (broke_as (last_parts c.args.expr.now (gap_toks c.args.gap.now)) (broke_here _ c.in_err-put_expr.ensures.broke))

pub put_before-returns-in_err-put_expr-clause-broke : goal.put_before-returns-in_err-put_expr-clause-broke
put_before-returns-in_err-put_expr-clause-broke g t c = any_err _ (broke_as (before_parts c.args.expr.now c.args.bytes.now) (broke_here _ c.in_err-put_expr.ensures.broke))
