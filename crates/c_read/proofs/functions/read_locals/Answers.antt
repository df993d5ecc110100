use Rattle.std.proofs.Common.{sym, ◌∙◌}
use Rattle.std.proofs.lemmas.Result.{err_from_is_err_and}
use Rattle.c_text.specs.Tokens.{mark, word}
use Rattle.c_scan.specs.Readings.{at}
use Rattle.c_read.specs.Blocks.{block_syntax}
use Rattle.c_read.specs.Combined.{many_until}
use Rattle.c_read.specs.Functions.{local}
use Rattle.c_read.proofs.Loops.{midway_on, midway_stops, last_ends, last_stops}
use Rattle.c_read.proofs.FunctionExact.{local_consumes}
use Rattle.c_read.proofs.functions.read_locals.Goals as goal

pub returns-in_err-variable : goal.returns-in_err-variable
returns-in_err-variable c =
    let p = err_from_is_err_and c.from_residual.result c.from_residual.ensures.1 in
    rw (p.1, p.2)
    (midway_stops (at (word "u64")) local.read (many_until (mark "}") block_syntax).read c.args.cursor.now c.more.variables c.more.cursor c.in_err-variable.field-0.0 c.read_local.new.cursor c.read_local.new.cursor c.more.invariant
    (sym c.at_word.ensures ∙ c.more-test.true) c.in_err-variable.ensures)

pub more-smaller : goal.more-smaller
more-smaller c = local_consumes.consumes c.more.cursor c.in_ok-variable.variable c.read_local.new.cursor c.in_ok-variable.ensures

pub more-preserved : goal.more-preserved
more-preserved c =
    midway_on (at (word "u64")) local.read (many_until (mark "}") block_syntax).read c.args.cursor.now c.more.variables c.push.new.self c.more.cursor c.read_local.new.cursor c.in_ok-variable.variable local_consumes c.more.invariant
    (sym c.at_word.ensures ∙ c.more-test.true) c.in_ok-variable.ensures c.in_ok-push.ensures.ok

pub returns-in_err-blocks : goal.returns-in_err-blocks
returns-in_err-blocks c =
    let p = err_from_is_err_and c.from_residual-in_err-blocks.result c.from_residual-in_err-blocks.ensures.1 in
    rw (p.1, p.2)
    (last_stops (at (word "u64")) local.read (many_until (mark "}") block_syntax).read c.args.cursor.now c.more.variables c.more.cursor c.in_err-blocks.field-0.0 c.read_blocks.new.cursor c.read_blocks.new.cursor c.more.invariant
    (sym c.at_word.ensures ∙ c.more-test.false) c.in_err-blocks.ensures)

pub returns : goal.returns
returns c =
    last_ends (at (word "u64")) local.read (many_until (mark "}") block_syntax).read c.args.cursor.now c.more.variables c.more.cursor c.in_ok-blocks.blocks c.read_blocks.new.cursor c.more.invariant
    (sym c.at_word.ensures ∙ c.more-test.false) c.in_ok-blocks.ensures
