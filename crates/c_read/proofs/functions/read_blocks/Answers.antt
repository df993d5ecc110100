use Rattle.std.proofs.Common.{sym, ap, ◌∙◌}
use Rattle.std.specs.Prelude.{not}
use Rattle.std.proofs.lemmas.Result.{err_from_is_err_and}
use Rattle.c_text.specs.Tokens.{mark}
use Rattle.c_scan.specs.Readings.{at, exactly}
use Rattle.c_read.specs.Blocks.{block_syntax, read_block}
use Rattle.c_read.proofs.Loops.{marked_stops, marked_ends, midway_on}
use Rattle.c_read.proofs.BlocksExact.{block_consumes}
use Rattle.c_read.proofs.functions.read_blocks.Goals as goal

pub returns-in_err-block : goal.returns-in_err-block
returns-in_err-block c =
    let p = err_from_is_err_and c.from_residual.result c.from_residual.ensures.1 in
    rw (p.1, p.2)
    (marked_stops (λ ts. not (at (mark "}") ts)) block_syntax (mark "}") c.args.cursor.now c.more.blocks c.more.cursor c.in_err-block.field-0.0 c.read_block.new.cursor c.read_block.new.cursor c.more.invariant
    (ap not (sym c.at_sign.ensures ∙ c.more-test.true)) c.in_err-block.ensures)

pub more-smaller : goal.more-smaller
more-smaller c = block_consumes.consumes c.more.cursor c.in_ok-block.block c.read_block.new.cursor c.in_ok-block.ensures

pub more-preserved : goal.more-preserved
more-preserved c =
    midway_on (λ ts. not (at (mark "}") ts)) read_block (exactly (mark "}")).read c.args.cursor.now c.more.blocks c.push.new.self c.more.cursor c.read_block.new.cursor c.in_ok-block.block block_consumes c.more.invariant
    (ap not (sym c.at_sign.ensures ∙ c.more-test.true)) c.in_ok-block.ensures c.in_ok-push.ensures.ok

pub returns : goal.returns
returns c = marked_ends (λ ts. not (at (mark "}") ts)) block_syntax (mark "}") c.args.cursor.now c.more.blocks c.more.cursor c.sign.new.self c.more.invariant (ap not (sym c.at_sign.ensures ∙ c.more-test.false)) c.in_ok-sign.ensures
