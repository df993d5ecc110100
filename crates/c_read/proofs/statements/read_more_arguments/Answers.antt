use Rattle.std.proofs.Common.{sym, ◌∙◌}
use Rattle.std.proofs.lemmas.Result.{err_from_is_err_and}
use Rattle.c_text.specs.Tokens.{mark}
use Rattle.c_scan.specs.Readings.{at}
use Rattle.c_read.specs.Combined.{before}
use Rattle.c_read.specs.Expressions.{expr}
use Rattle.c_scan.specs.Readings.{exactly}
use Rattle.c_read.proofs.Loops.{marked_stops, marked_ends, marked_breaks, midway_on}
use Rattle.c_read.proofs.StmtExact.{next_consumes}
use Rattle.c_read.proofs.statements.read_more_arguments.Goals as goal

pub returns-in_err-next : goal.returns-in_err-next
returns-in_err-next c =
    let p = err_from_is_err_and c.from_residual.result c.from_residual.ensures.1 in
    rw (p.1, p.2)
    (marked_stops (at (mark ",")) (before (mark ",") expr) (mark ")") c.args.cursor.now c.more.arguments c.more.cursor c.in_err-next.field-0.0 c.read_next_argument.new.cursor c.read_next_argument.new.cursor c.more.invariant (sym c.at_sign.ensures ∙ c.more-test.true)
    c.in_err-next.ensures)

pub more-smaller : goal.more-smaller
more-smaller c = next_consumes.consumes c.more.cursor c.in_ok-next.next c.read_next_argument.new.cursor c.in_ok-next.ensures

pub more-preserved : goal.more-preserved
more-preserved c =
    midway_on (at (mark ",")) (before (mark ",") expr).read (exactly (mark ")")).read c.args.cursor.now c.more.arguments c.push.new.self c.more.cursor c.read_next_argument.new.cursor c.in_ok-next.next next_consumes c.more.invariant (sym c.at_sign.ensures ∙ c.more-test.true)
    c.in_ok-next.ensures c.in_ok-push.ensures.ok

pub returns-in_err-sign : goal.returns-in_err-sign
returns-in_err-sign c =
    let p = err_from_is_err_and c.from_residual-in_err-sign.result c.from_residual-in_err-sign.ensures.1 in
    rw (p.1, p.2)
    (marked_breaks (at (mark ",")) (before (mark ",") expr) (mark ")") c.args.cursor.now c.more.arguments c.more.cursor c.in_err-sign.field-0.0 c.sign.new.self c.sign.new.self c.more.invariant (sym c.at_sign.ensures ∙ c.more-test.false)
    c.in_err-sign.ensures)

pub returns : goal.returns
returns c = marked_ends (at (mark ",")) (before (mark ",") expr) (mark ")") c.args.cursor.now c.more.arguments c.more.cursor c.sign.new.self c.more.invariant (sym c.at_sign.ensures ∙ c.more-test.false) c.in_ok-sign.ensures
