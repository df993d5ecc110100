use Rattle.std.proofs.lemmas.Result.{on_ok_weaker}
use Rattle.c_lower.proofs.ActLaws.{did_SetCell, did_SetSlice}
use Rattle.c_lower.proofs.instruction.lower_act.Goals as goal

pub returns-in_ok-lower_expr-in-SetCell : goal.returns-in_ok-lower_expr-in-SetCell
returns-in_ok-lower_expr-in-SetCell c =
    on_ok_weaker c.set_cell.result
    (did_SetCell c.args.machine.now c.args.pc c.args.act.now c.args.out.now c.lower_expr.new.out c.set_cell.new.out c.in-SetCell.c c.in-SetCell.e c.temporary.result c.in-SetCell.is c.in_ok-lower_expr-in-SetCell.ensures c.temporary.ensures)
    c.set_cell.ensures

pub returns-in_ok-value-in-SetSlice : goal.returns-in_ok-value-in-SetSlice
returns-in_ok-value-in-SetSlice c =
    on_ok_weaker c.set_cell-in-SetSlice.result
    (did_SetSlice c.args.machine.now c.args.pc c.args.act.now c.args.out.now c.lower_expr-in-SetSlice.new.out c.set_cell-in-SetSlice.new.out c.in-SetSlice.c c.in-SetSlice.lo c.in-SetSlice.hi c.in-SetSlice.e c.in_ok-value-in-SetSlice.value
    c.in-SetSlice.is c.in_ok-lower_expr-in-SetSlice.ensures c.in_ok-value-in-SetSlice.ensures)
    c.set_cell-in-SetSlice.ensures
