use Rattle.std.proofs.Common.{arith}
use Rattle.listing.specs.Lists.{behind_comma}
use Rattle.listing.proofs.Loops.{took_next, part_next, took_end}
use Rattle.c_text.proofs.Written.{took_nothing, any_err}
use Rattle.listing.proofs.words.put_more_cells.Goals as goal

pub loop-cell-init : goal.loop-cell-init
loop-cell-init g c = took_nothing

pub returns-in_err-put_behind_comma-clause-part : goal.returns-in_err-put_behind_comma-clause-part
returns-in_err-put_behind_comma-clause-part g c = any_err _ (part_next behind_comma c.args.more.now c.loop-cell.cell-index _ (omega arith) c.loop-cell.invariant c.in_err-put_behind_comma.ensures.part)

pub loop-cell-preserved : goal.loop-cell-preserved
loop-cell-preserved g c = took_next behind_comma c.args.more.now c.loop-cell.cell-index _ (omega arith) c.loop-cell.invariant c.in_ok-put_behind_comma.ensures.took

pub returns-clause-took : goal.returns-clause-took
returns-clause-took g c = took_end behind_comma c.args.more.now c.loop-cell.cell-index c.loop-cell-test.false c.loop-cell.invariant
