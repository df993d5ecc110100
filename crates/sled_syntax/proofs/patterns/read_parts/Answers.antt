use Rattle.std.proofs.Common.{sym, ◌∙◌}
use Rattle.std.proofs.lemmas.Result.{err_from_is_err_and}
use Rattle.line_reading.specs.Signs.{ampersand}
use Rattle.line_reading.proofs.Loops.{first_stops, item_falls, loop_end, loop_on, loop_stops}
use Rattle.sled_syntax.specs.LineReaders.{read_part}
use Rattle.sled_syntax.proofs.PatternSound.{part_shorter}
use Rattle.sled_syntax.proofs.patterns.read_parts.Goals as goal

pub returns-in_err-first : goal.returns-in_err-first
returns-in_err-first c =
    let p = err_from_is_err_and c.from_residual.result c.from_residual.ensures.1 in
    rw (p.1, p.2) (first_stops ampersand read_part c.args.cursor.now.rest.now c.in_err-first.field-0.0 c.read_part.new.cursor.rest.now c.read_part.new.cursor.rest.now c.in_err-first.ensures)

pub more-preserved : goal.more-preserved
more-preserved c =
    loop_on ampersand read_part c.args.cursor.now.rest.now c.more.parts c.push-in-more.new.self c.more.cursor.rest.now c.take_sign.new.self.rest.now c.in_ok-next.next c.read_part-in-more.new.cursor.rest.now part_shorter c.more.invariant c.take_sign.ensures.rest (sym c.take_sign.ensures.found ∙ c.more-test.true) c.in_ok-next.ensures c.in_ok-push-2.ensures.ok

pub returns-in_err-next : goal.returns-in_err-next
returns-in_err-next c =
    let p = err_from_is_err_and c.from_residual-in_err-next.result c.from_residual-in_err-next.ensures.1 in
    rw (p.1, p.2) (loop_stops ampersand read_part c.args.cursor.now.rest.now c.more.parts c.more.cursor.rest.now c.take_sign.new.self.rest.now c.in_err-next.field-0.0 c.read_part-in-more.new.cursor.rest.now c.read_part-in-more.new.cursor.rest.now c.more.invariant c.take_sign.ensures.rest (sym c.take_sign.ensures.found ∙ c.more-test.true) c.in_err-next.ensures)

pub more-smaller : goal.more-smaller
more-smaller c =
    item_falls ampersand read_part c.more.cursor.rest.now c.take_sign.new.self.rest.now c.in_ok-next.next c.read_part-in-more.new.cursor.rest.now part_shorter c.take_sign.ensures.rest (sym c.take_sign.ensures.found ∙ c.more-test.true) c.in_ok-next.ensures

pub returns : goal.returns
returns c =
    loop_end ampersand read_part c.args.cursor.now.rest.now c.more.parts c.more.cursor.rest.now c.take_sign.new.self.rest.now c.more.invariant c.take_sign.ensures.rest (sym c.take_sign.ensures.found ∙ c.more-test.false)
