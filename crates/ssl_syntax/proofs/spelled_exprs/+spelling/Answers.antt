use Rattle.std.proofs.Common.{◌<◌, length, arith}
use Rattle.std.proofs.lemmas.Result.{on_ok_weaker}
use Rattle.line_reading.specs.Signs.{comma}
use Rattle.line_reading.proofs.Puts.{put_more}
use Rattle.ssl_syntax.specs.Expressions.{expr_toks}
use Rattle.ssl_syntax.proofs.Puts.{put_bin, put_if}
use Rattle.ssl_syntax.proofs.spelled_exprs.+spelling.Goals as goal

pub put_expr-returns-in_ok-put_before-in-Bin : goal.put_expr-returns-in_ok-put_before-in-Bin
put_expr-returns-in_ok-put_before-in-Bin t c =
    on_ok_weaker c.put_before-in-Bin.result (put_bin c.args.out.now c.put_sign.new.out c.put_before.new.out c.put_before-in-Bin.new.out c.args.expr.now c.in-Bin.op c.in-Bin.left c.in-Bin.right c.in-Bin.is c.in_ok-put_sign-in-Bin.ensures c.in_ok-put_before-in-Bin.ensures) c.put_before-in-Bin.ensures

pub put_expr-returns-in_ok-put_before-in-If-2 : goal.put_expr-returns-in_ok-put_before-in-If-2
put_expr-returns-in_ok-put_before-in-If-2 t c =
    on_ok_weaker c.put_before-in-If-3.result (put_if c.args.out.now c.put_open.new.out c.put_before-in-If.new.out c.put_before-in-If-2.new.out c.put_before-in-If-3.new.out c.args.expr.now c.in-If.test c.in-If.first c.in-If.second c.in-If.is c.in_ok-put_open-in-If.ensures c.in_ok-put_before-in-If.ensures c.in_ok-put_before-in-If-2.ensures) c.put_before-in-If-3.ensures

pub put_args-loop-arg-preserved : goal.put_args-loop-arg-preserved
put_args-loop-arg-preserved t c =
    let within : c.loop-arg.arg-index < length c.in-Some.rest.now = omega arith in
    put_more comma expr_toks c.put_expr.new.out c.loop-arg.out c.put_sign.new.out c.put_expr-in-loop-arg.new.out c.in-Some.rest.now c.loop-arg.arg-index c.arg-item.result within c.arg-item.is c.loop-arg.invariant c.in_ok-put_sign.ensures c.in_ok-put_expr-2.ensures
