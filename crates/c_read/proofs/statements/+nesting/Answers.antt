use Rattle.std.proofs.Common.{sym, ap, ◌∙◌}
use Rattle.std.specs.Prelude.{not}
use Rattle.std.proofs.lemmas.Result.{err_from_is_err_and}
use Rattle.c_text.specs.Tokens.{mark}
use Rattle.c_scan.specs.Readings.{at, exactly}
use Rattle.c_read.specs.Statements.{deeper_stmt, read_statement}
use Rattle.c_read.proofs.Loops.{marked_stops, marked_ends, midway_on}
use Rattle.c_read.proofs.StmtExact.{stmt_consumes}
use Rattle.c_read.proofs.statements.+nesting.Goals as goal

pub read_stmts_within-returns-in_err-stmt : goal.read_stmts_within-returns-in_err-stmt
read_stmts_within-returns-in_err-stmt t c =
    let p = err_from_is_err_and c.from_residual.result c.from_residual.ensures.1 in
    rw (p.1, p.2) (marked_stops (λ ts. not (at (mark "}") ts)) (deeper_stmt (read_statement c.args.inside)) (mark "}") c.args.cursor.now c.more.stmts c.more.cursor c.in_err-stmt.field-0.0 c.read_statement.new.cursor c.read_statement.new.cursor c.more.invariant
    (ap not (sym c.at_sign.ensures ∙ c.more-test.true)) c.in_err-stmt.ensures)

pub read_stmts_within-more-smaller : goal.read_stmts_within-more-smaller
read_stmts_within-more-smaller t c = (stmt_consumes c.args.inside).consumes c.more.cursor c.in_ok-stmt.stmt c.read_statement.new.cursor c.in_ok-stmt.ensures

pub read_stmts_within-more-preserved : goal.read_stmts_within-more-preserved
read_stmts_within-more-preserved t c =
    midway_on (λ ts. not (at (mark "}") ts)) (read_statement c.args.inside) (exactly (mark "}")).read c.args.cursor.now c.more.stmts c.push.new.self c.more.cursor c.read_statement.new.cursor c.in_ok-stmt.stmt (stmt_consumes c.args.inside) c.more.invariant
    (ap not (sym c.at_sign.ensures ∙ c.more-test.true)) c.in_ok-stmt.ensures c.in_ok-push.ensures.ok

pub read_stmts_within-returns : goal.read_stmts_within-returns
read_stmts_within-returns t c =
    marked_ends (λ ts. not (at (mark "}") ts)) (deeper_stmt (read_statement c.args.inside)) (mark "}") c.args.cursor.now c.more.stmts c.more.cursor c.sign.new.self c.more.invariant (ap not (sym c.at_sign.ensures ∙ c.more-test.false)) c.in_ok-sign.ensures
