use Rattle.std.proofs.Common.{sym, ap, ◌∙◌}
use Rattle.std.proofs.lemmas.Result.{err_from_is_err_and}
use Rattle.ssl_syntax.proofs.ListLoops.{param_end, param_stops, param_falls}
use Rattle.ssl_syntax.proofs.lists.read_some_params.Goals as goal

pub returns-in_err-next : goal.returns-in_err-next
returns-in_err-next c =
    let p = err_from_is_err_and c.from_residual-in_err-next.result c.from_residual-in_err-next.ensures.1 in
    rw (p.1, p.2) (param_stops c.args.cursor.now.rest.now c.more.params c.more.cursor.rest.now c.take_sign.new.self.rest.now c.in_err-next.field-0.0 c.read_param-in-more.new.cursor.rest.now c.read_param-in-more.new.cursor.rest.now c.more.invariant c.take_sign.ensures.rest (sym c.take_sign.ensures.found ∙ c.more-test.true) c.in_err-next.ensures)

pub more-smaller : goal.more-smaller
more-smaller c =
    param_falls c.more.cursor.rest.now c.take_sign.new.self.rest.now c.in_ok-next.next c.read_param-in-more.new.cursor.rest.now c.take_sign.ensures.rest (sym c.take_sign.ensures.found ∙ c.more-test.true) c.in_ok-next.ensures

pub returns : goal.returns
returns c =
    param_end c.args.cursor.now.rest.now c.more.params c.more.cursor.rest.now c.take_sign.new.self.rest.now c.more.invariant c.take_sign.ensures.rest (sym c.take_sign.ensures.found ∙ c.more-test.false)
