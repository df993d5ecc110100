use Rattle.std.proofs.Common.{sym, ◌∙◌}
use Rattle.std.proofs.lemmas.Result.{err_from_is_err_and}
use Rattle.c_text.specs.Tokens.{word}
use Rattle.c_scan.specs.Readings.{at}
use Rattle.c_read.specs.Blocks.{read_choice, default}
use Rattle.c_read.proofs.Loops.{midway_on, midway_stops, last_ends, last_stops}
use Rattle.c_read.proofs.BlockExact.{case_consumes}
use Rattle.c_read.proofs.blocks.read_choices.Goals as goal

pub returns-in_err-case : goal.returns-in_err-case
returns-in_err-case c =
    let p = err_from_is_err_and c.from_residual.result c.from_residual.ensures.1 in
    rw (p.1, p.2) (midway_stops (at (word "case")) read_choice default.read c.args.cursor.now c.more.cases c.more.cursor c.in_err-case.field-0.0 c.read_choice.new.cursor c.read_choice.new.cursor c.more.invariant
    (sym c.at_word.ensures ∙ c.more-test.true) c.in_err-case.ensures)

pub more-smaller : goal.more-smaller
more-smaller c = case_consumes.consumes c.more.cursor c.in_ok-case.case c.read_choice.new.cursor c.in_ok-case.ensures

pub more-preserved : goal.more-preserved
more-preserved c =
    midway_on (at (word "case")) read_choice default.read c.args.cursor.now c.more.cases c.push.new.self c.more.cursor c.read_choice.new.cursor c.in_ok-case.case case_consumes c.more.invariant
    (sym c.at_word.ensures ∙ c.more-test.true) c.in_ok-case.ensures c.in_ok-push.ensures.ok

pub returns-in_err-default : goal.returns-in_err-default
returns-in_err-default c =
    let p = err_from_is_err_and c.from_residual-in_err-default.result c.from_residual-in_err-default.ensures.1 in
    rw (p.1, p.2) (last_stops (at (word "case")) read_choice default.read c.args.cursor.now c.more.cases c.more.cursor c.in_err-default.field-0.0 c.read_otherwise.new.cursor c.read_otherwise.new.cursor c.more.invariant
    (sym c.at_word.ensures ∙ c.more-test.false) c.in_err-default.ensures)

pub returns : goal.returns
returns c = last_ends (at (word "case")) read_choice default.read c.args.cursor.now c.more.cases c.more.cursor c.in_ok-default.default c.read_otherwise.new.cursor c.more.invariant (sym c.at_word.ensures ∙ c.more-test.false) c.in_ok-default.ensures
