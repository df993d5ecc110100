use Rattle.std.proofs.Common.{◌∙◌, ap}
use Rattle.std.proofs.lemmas.Result.{err_from_is_err_and}
use Rattle.c_scan.specs.Readings.{takes}
use Rattle.c_read.proofs.LineLoops.{line_consumes, parts_end, parts_stop}
use Rattle.c_read.proofs.blocks.read_block_parts.Goals as goal

pub returns-in_err-stmt : goal.returns-in_err-stmt
returns-in_err-stmt c =
    let p = err_from_is_err_and c.from_residual.result c.from_residual.ensures.1 in
    rw (p.1, p.2) (parts_stop c.args.cursor.now c.more.stmts c.more.cursor c.in_err-stmt.field-0.0 c.read_block_part.new.cursor c.read_block_part.new.cursor c.more.invariant c.in_err-stmt.ensures)

pub more-smaller : goal.more-smaller
more-smaller c = line_consumes.consumes c.more.cursor c.in_ok-stmt.field-0 c.read_block_part.new.cursor c.in_ok-stmt.ensures

pub returns-in-Final : goal.returns-in-Final
returns-in-Final c = parts_end c.args.cursor.now c.more.stmts c.more.cursor c.read_block_part.new.cursor c.in-Final.end c.more.invariant (c.in_ok-stmt.ensures ∙ ap (λ l. takes l c.read_block_part.new.cursor) c.in-Final.is)
