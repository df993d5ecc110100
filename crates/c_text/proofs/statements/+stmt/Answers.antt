use Rattle.std.proofs.Common.{arith, ap, sym, ◌∙◌}
use Rattle.std.proofs.lemmas.Result.{on_ok_weaker, on_err_weaker}
use Rattle.c_text.specs.Statements.{stmt_toks}
use Rattle.c_text.proofs.Spelled.{toks-If, if_parts}
use Rattle.c_text.proofs.Loops.{wrote_next, broke_next}
use Rattle.c_text.proofs.Written.{wrote_both, broke_then, broke_here, wrote_as, broke_as, any_err}
use Rattle.c_text.proofs.statements.+stmt.Goals as goal

pub put_stmts-returns-in_err-put_indent-clause-broke : goal.put_stmts-returns-in_err-put_indent-clause-broke
put_stmts-returns-in_err-put_indent-clause-broke g t c =
    any_err _ (broke_next stmt_toks c.args.stmts.now c.loop-stmt.stmt-index c.stmt-item.result (omega arith) c.loop-stmt.invariant (broke_here _ c.in_err-put_indent.ensures.broke))

pub put_stmts-returns-in_err-put_stmt-clause-broke : goal.put_stmts-returns-in_err-put_stmt-clause-broke
put_stmts-returns-in_err-put_stmt-clause-broke g t c =
    any_err _ (broke_next stmt_toks c.args.stmts.now c.loop-stmt.stmt-index c.stmt-item.result (omega arith) c.loop-stmt.invariant
    (broke_then c.in_ok-put_indent.ensures.wrote (broke_as (ap stmt_toks (sym c.stmt-item.is)) c.in_err-put_stmt.ensures.broke)))

pub put_stmts-loop-stmt-preserved : goal.put_stmts-loop-stmt-preserved
put_stmts-loop-stmt-preserved g t c =
    wrote_next stmt_toks c.args.stmts.now c.loop-stmt.stmt-index c.stmt-item.result (omega arith) c.loop-stmt.invariant
    (wrote_both c.in_ok-put_indent.ensures.wrote (wrote_as (ap stmt_toks (sym c.stmt-item.is)) c.in_ok-put_stmt.ensures.wrote))

pub put_stmt-returns-in_err-put_condition-in-If-clause-broke : goal.put_stmt-returns-in_err-put_condition-in-If-clause-broke
put_stmt-returns-in_err-put_condition-in-If-clause-broke g t c = any_err _ (broke_as (ap stmt_toks c.in-If.is ∙ toks-If c.in-If.test c.in-If.inner) (broke_here _ c.in_err-put_condition-in-If.ensures.broke))

pub put_stmt-returns-in_err-put_stmts-in-If-clause-broke : goal.put_stmt-returns-in_err-put_stmts-in-If-clause-broke
put_stmt-returns-in_err-put_stmts-in-If-clause-broke g t c = any_err _ (broke_as (if_parts c.args.stmt.now c.in-If.test c.in-If.inner _ c.in-If.is c.as_slice-in-If.ensures) (broke_then c.in_ok-put_condition-in-If.ensures.wrote (broke_here _ c.in_err-put_stmts-in-If.ensures.broke)))

pub put_stmt-returns-in_ok-put_stmts-in-If-clause-wrote : goal.put_stmt-returns-in_ok-put_stmts-in-If-clause-wrote
put_stmt-returns-in_ok-put_stmts-in-If-clause-wrote g t c = on_ok_weaker c.put_close.result (λ f. wrote_as (if_parts c.args.stmt.now c.in-If.test c.in-If.inner _ c.in-If.is c.as_slice-in-If.ensures) (wrote_both c.in_ok-put_condition-in-If.ensures.wrote (wrote_both c.in_ok-put_stmts-in-If.ensures.wrote f))) c.put_close.ensures.wrote

pub put_stmt-returns-in_ok-put_stmts-in-If-clause-broke : goal.put_stmt-returns-in_ok-put_stmts-in-If-clause-broke
put_stmt-returns-in_ok-put_stmts-in-If-clause-broke g t c = on_err_weaker c.put_close.result (λ f. broke_as (if_parts c.args.stmt.now c.in-If.test c.in-If.inner _ c.in-If.is c.as_slice-in-If.ensures) (broke_then c.in_ok-put_condition-in-If.ensures.wrote (broke_then c.in_ok-put_stmts-in-If.ensures.wrote f))) c.put_close.ensures.broke
