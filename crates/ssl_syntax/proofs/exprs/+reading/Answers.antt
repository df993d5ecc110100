use Rattle.std.proofs.Common.{sym, ap, ◌∙◌}
use Rattle.std.proofs.lemmas.Result.{err_from_is_err_and}
use Rattle.ssl_syntax.proofs.ExprLoops.{expr_end, expr_stops, expr_falls}
use Rattle.ssl_syntax.proofs.exprs.+reading.Goals as goal

pub read_several-returns-in_err-next : goal.read_several-returns-in_err-next
read_several-returns-in_err-next t c =
    let p = err_from_is_err_and c.from_residual-in_err-next.result c.from_residual-in_err-next.ensures.1 in
    rw (p.1, p.2) (expr_stops c.args.inside c.args.cursor.now.rest.now c.more.args c.more.cursor.rest.now c.take_sign.new.self.rest.now c.in_err-next.field-0.0 c.read_expr-in-more.new.cursor.rest.now c.read_expr-in-more.new.cursor.rest.now c.more.invariant c.take_sign.ensures.rest (sym c.take_sign.ensures.found ∙ c.more-test.true) c.in_err-next.ensures)

pub read_several-more-smaller : goal.read_several-more-smaller
read_several-more-smaller t c =
    expr_falls c.args.inside c.more.cursor.rest.now c.take_sign.new.self.rest.now c.in_ok-next.next c.read_expr-in-more.new.cursor.rest.now c.take_sign.ensures.rest (sym c.take_sign.ensures.found ∙ c.more-test.true) c.in_ok-next.ensures

pub read_several-returns : goal.read_several-returns
read_several-returns t c =
    expr_end c.args.inside c.args.cursor.now.rest.now c.more.args c.more.cursor.rest.now c.take_sign.new.self.rest.now c.more.invariant c.take_sign.ensures.rest (sym c.take_sign.ensures.found ∙ c.more-test.false)
