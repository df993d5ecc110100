use Rattle.std.proofs.Common.{sym, ap, ◌∙◌}
use Rattle.std.proofs.lemmas.Result.{err_from_is_err_and}
use Rattle.ssl_syntax.proofs.ListLoops.{part_end, part_stops, part_falls}
use Rattle.ssl_syntax.proofs.lists.read_view_parts.Goals as goal

pub returns-in_err-next : goal.returns-in_err-next
returns-in_err-next c =
    let p = err_from_is_err_and c.from_residual-in_err-next.result c.from_residual-in_err-next.ensures.1 in
    rw (p.1, p.2) (part_stops c.args.cursor.now.rest.now c.more.parts c.more.cursor.rest.now c.take_sign.new.self.rest.now c.in_err-next.field-0.0 c.read_view_part-in-more.new.cursor.rest.now c.read_view_part-in-more.new.cursor.rest.now c.more.invariant c.take_sign.ensures.rest (sym c.take_sign.ensures.found ∙ c.more-test.true) c.in_err-next.ensures)

pub more-smaller : goal.more-smaller
more-smaller c =
    part_falls c.more.cursor.rest.now c.take_sign.new.self.rest.now c.in_ok-next.next c.read_view_part-in-more.new.cursor.rest.now c.take_sign.ensures.rest (sym c.take_sign.ensures.found ∙ c.more-test.true) c.in_ok-next.ensures

pub returns : goal.returns
returns c =
    part_end c.args.cursor.now.rest.now c.more.parts c.more.cursor.rest.now c.take_sign.new.self.rest.now c.more.invariant c.take_sign.ensures.rest (sym c.take_sign.ensures.found ∙ c.more-test.false)
