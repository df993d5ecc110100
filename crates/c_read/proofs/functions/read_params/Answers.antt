use Rattle.std.proofs.Common.{sym, ◌∙◌}
use Rattle.std.proofs.lemmas.Result.{err_from_is_err_and}
use Rattle.c_text.specs.Tokens.{mark}
use Rattle.c_scan.specs.Readings.{at}
use Rattle.c_read.specs.Combined.{before}
use Rattle.c_read.specs.Functions.{param}
use Rattle.c_scan.specs.Readings.{exactly}
use Rattle.c_read.proofs.Loops.{marked_stops, marked_ends, marked_breaks, midway_on}
use Rattle.c_read.proofs.FunctionExact.{param_consumes}
use Rattle.c_read.proofs.functions.read_params.Goals as goal

pub returns-in_err-next : goal.returns-in_err-next
returns-in_err-next c =
    let p = err_from_is_err_and c.from_residual.result c.from_residual.ensures.1 in
    rw (p.1, p.2)
    (marked_stops (at (mark ",")) (before (mark ",") param) (mark ")") c.args.cursor.now c.more.params c.more.cursor c.in_err-next.field-0.0 c.next_param.new.cursor c.next_param.new.cursor c.more.invariant (sym c.at_sign.ensures ∙ c.more-test.true)
    c.in_err-next.ensures)

pub more-smaller : goal.more-smaller
more-smaller c = param_consumes.consumes c.more.cursor c.in_ok-next.next c.next_param.new.cursor c.in_ok-next.ensures

pub more-preserved : goal.more-preserved
more-preserved c =
    midway_on (at (mark ",")) (before (mark ",") param).read (exactly (mark ")")).read c.args.cursor.now c.more.params c.push.new.self c.more.cursor c.next_param.new.cursor c.in_ok-next.next param_consumes c.more.invariant (sym c.at_sign.ensures ∙ c.more-test.true)
    c.in_ok-next.ensures c.in_ok-push.ensures.ok

pub returns-in_err-sign : goal.returns-in_err-sign
returns-in_err-sign c =
    let p = err_from_is_err_and c.from_residual-in_err-sign.result c.from_residual-in_err-sign.ensures.1 in
    rw (p.1, p.2)
    (marked_breaks (at (mark ",")) (before (mark ",") param) (mark ")") c.args.cursor.now c.more.params c.more.cursor c.in_err-sign.field-0.0 c.sign.new.self c.sign.new.self c.more.invariant (sym c.at_sign.ensures ∙ c.more-test.false)
    c.in_err-sign.ensures)

pub returns : goal.returns
returns c = marked_ends (at (mark ",")) (before (mark ",") param) (mark ")") c.args.cursor.now c.more.params c.more.cursor c.sign.new.self c.more.invariant (sym c.at_sign.ensures ∙ c.more-test.false) c.in_ok-sign.ensures
