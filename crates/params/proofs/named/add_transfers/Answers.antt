use Rattle.std.proofs.Common.{◌∙◌, ◌++◌, ap}
use Rattle.points.specs.Summaries.{guard_cells, act_names}
use Rattle.params.proofs.CellLists.{names-next}
use Rattle.params.proofs.named.add_transfers.Goals as goal

pub loop-transfer-preserved : goal.loop-transfer-preserved
loop-transfer-preserved c =
    let t = c.transfer-item.result in
    c.in_ok-add_act.ensures
    ∙ ap (λ l. l ++ act_names c.args.machine.now c.args.conv.now t.act) (c.in_ok-add_guard.ensures ∙ ap (λ l. l ++ guard_cells t.guard) c.loop-transfer.invariant)
    ∙ names-next c.args.machine.now c.args.conv.now c.args.cells.now c.args.transfers.now c.loop-transfer.transfer-index t c.loop-transfer-test.true c.transfer-item.is
