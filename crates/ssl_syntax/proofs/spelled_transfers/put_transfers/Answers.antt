use Rattle.std.proofs.Common.{◌≡◌, ◌<◌, ◌++◌, length, ap, sym, ◌∙◌, arith}
use Rattle.line_reading.specs.Signs.{semicolon}
use Rattle.line_reading.proofs.Puts.{put_more}
use Rattle.ssl_syntax.specs.Transfers.{transfer_toks}
use Rattle.ssl_syntax.proofs.spelled_transfers.put_transfers.Goals as goal

pub loop-transfer-preserved : goal.loop-transfer-preserved
loop-transfer-preserved c =
    let within : c.loop-transfer.transfer-index < length c.in-Some.rest.now = omega arith in
    put_more semicolon transfer_toks c.put_transfer.new.out c.loop-transfer.out c.put_sign.new.out c.put_transfer-in-loop-transfer.new.out c.in-Some.rest.now c.loop-transfer.transfer-index c.transfer-item.result within c.transfer-item.is c.loop-transfer.invariant c.in_ok-put_sign.ensures c.in_ok-put_transfer-2.ensures
