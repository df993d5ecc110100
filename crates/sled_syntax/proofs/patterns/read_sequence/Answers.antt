use Rattle.std.proofs.Common.{sym, ◌∙◌}
use Rattle.std.proofs.lemmas.Result.{err_from_is_err_and}
use Rattle.line_reading.specs.Signs.{semicolon}
use Rattle.line_reading.proofs.Loops.{first_stops, item_falls, loop_end, loop_on, loop_stops}
use Rattle.sled_syntax.specs.LineReaders.{read_item}
use Rattle.sled_syntax.proofs.PatternSound.{item_shorter}
use Rattle.sled_syntax.proofs.patterns.read_sequence.Goals as goal

pub returns-in_err-first : goal.returns-in_err-first
returns-in_err-first c =
    let p = err_from_is_err_and c.from_residual.result c.from_residual.ensures.1 in
    rw (p.1, p.2) (first_stops semicolon read_item c.args.cursor.now.rest.now c.in_err-first.field-0.0 c.read_item.new.cursor.rest.now c.read_item.new.cursor.rest.now c.in_err-first.ensures)

pub more-preserved : goal.more-preserved
more-preserved c =
    loop_on semicolon read_item c.args.cursor.now.rest.now c.more.found c.push-in-more.new.self c.more.cursor.rest.now c.take_sign.new.self.rest.now c.in_ok-next.next c.read_item-in-more.new.cursor.rest.now item_shorter c.more.invariant c.take_sign.ensures.rest (sym c.take_sign.ensures.found ∙ c.more-test.true) c.in_ok-next.ensures c.in_ok-push-2.ensures.ok

pub returns-in_err-next : goal.returns-in_err-next
returns-in_err-next c =
    let p = err_from_is_err_and c.from_residual-in_err-next.result c.from_residual-in_err-next.ensures.1 in
    rw (p.1, p.2) (loop_stops semicolon read_item c.args.cursor.now.rest.now c.more.found c.more.cursor.rest.now c.take_sign.new.self.rest.now c.in_err-next.field-0.0 c.read_item-in-more.new.cursor.rest.now c.read_item-in-more.new.cursor.rest.now c.more.invariant c.take_sign.ensures.rest (sym c.take_sign.ensures.found ∙ c.more-test.true) c.in_err-next.ensures)

pub more-smaller : goal.more-smaller
more-smaller c =
    item_falls semicolon read_item c.more.cursor.rest.now c.take_sign.new.self.rest.now c.in_ok-next.next c.read_item-in-more.new.cursor.rest.now item_shorter c.take_sign.ensures.rest (sym c.take_sign.ensures.found ∙ c.more-test.true) c.in_ok-next.ensures

pub returns : goal.returns
returns c =
    loop_end semicolon read_item c.args.cursor.now.rest.now c.more.found c.more.cursor.rest.now c.take_sign.new.self.rest.now c.more.invariant c.take_sign.ensures.rest (sym c.take_sign.ensures.found ∙ c.more-test.false)
