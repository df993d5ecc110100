use Rattle.std.proofs.Common.{◌∙◌, ◌++◌, ap}
use Rattle.points.specs.Summaries.{act_assigns}
use Rattle.params.proofs.CellLists.{assigns-next}
use Rattle.params.proofs.named.add_all_assigned.Goals as goal

pub loop-transfer-preserved : goal.loop-transfer-preserved
loop-transfer-preserved c =
    let act = c.transfer-item.result.act in
    c.in_ok-add_assigned_by.ensures
    ∙ ap (λ l. l ++ act_assigns c.args.machine.now c.args.conv.now act) c.loop-transfer.invariant
    ∙ assigns-next c.args.machine.now c.args.conv.now c.args.cells.now c.args.transfers.now c.loop-transfer.transfer-index c.transfer-item.result c.loop-transfer-test.true c.transfer-item.is
