use Rattle.std.proofs.Common.{◌<◌, length, arith}
use Rattle.line_reading.proofs.TextLaws.{more_read}
use Rattle.line_reading.proofs.text.read_values.Goals as goal

pub loop-line-preserved : goal.loop-line-preserved
loop-line-preserved g c =
    let within : c.loop-line.line-index < length c.args.found.now = omega arith in
    more_read g.L.LineValue.spelled g.L.LineValue.formed c.args.found.now c.loop-line.values c.push.new.self c.loop-line.line-index c.line-item.result c.in_ok-value.value within c.line-item.is c.loop-line.invariant c.in_ok-value.ensures c.in_ok-push.ensures.ok
