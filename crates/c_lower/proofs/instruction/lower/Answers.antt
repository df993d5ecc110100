use Rattle.std.proofs.Common.{◌≤◌, sym, subst}
use Rattle.std.specs.Prelude.{All}
use Rattle.rtl_core.specs.SoundTerms.{IsSoundTransfer}
use Rattle.c_lower.specs.Accounts.{lowered_need}
use Rattle.c_lower.proofs.TransferLaws.{next_transfer, each_transfer}
use Rattle.c_lower.proofs.instruction.lower.Goals as goal

pub lower_transfer-requires : goal.lower_transfer-requires
lower_transfer-requires c =
    let same = sym c.as_slice-transfer-items.ensures in
    each_transfer c.args.machine.now (record { machine = c.requires.machine; cells = c.requires.cells }) c.as_slice-transfer-items.result.now
    (subst (All (IsSoundTransfer c.args.machine.now)) same c.requires.transfers.each) (subst (λ ts. lowered_need ts ≤ 500) same c.requires.temporaries)
    c.loop-transfer.transfer-index c.transfer-item.result c.loop-transfer-test.true c.transfer-item.is

pub loop-transfer-preserved : goal.loop-transfer-preserved
loop-transfer-preserved c =
    next_transfer c.args.machine.now c.args.pc c.loop-transfer.out c.lower_transfer.new.out _ c.as_slice-transfer-items.result.now
    c.loop-transfer.transfer-index c.transfer-item.result c.loop-transfer-test.true c.transfer-item.is c.loop-transfer.invariant c.in_ok-lower_transfer.ensures
