use Rattle.std.proofs.Common.{◌<◌, length, arith}
use Rattle.line_reading.specs.Signs.{semicolon}
use Rattle.line_reading.proofs.Puts.{put_more}
use Rattle.sled_syntax.specs.Lines.{item_toks}
use Rattle.sled_syntax.proofs.spelling.put_sequence.Goals as goal

pub loop-item-preserved : goal.loop-item-preserved
loop-item-preserved c =
    let within : c.loop-item.item-index < length c.in-Some.rest.now = omega arith in
    put_more semicolon item_toks c.put_item.new.out c.loop-item.out c.put_sign.new.out c.put_item-in-loop-item.new.out c.in-Some.rest.now c.loop-item.item-index c.item-item.result within c.item-item.is c.loop-item.invariant c.in_ok-put_sign.ensures c.in_ok-put_item-2.ensures
