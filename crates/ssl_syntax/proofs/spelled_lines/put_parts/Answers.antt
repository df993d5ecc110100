use Rattle.std.proofs.Common.{◌≡◌, ◌<◌, ◌++◌, length, ap, sym, ◌∙◌, arith}
use Rattle.line_reading.specs.Signs.{comma}
use Rattle.line_reading.proofs.Puts.{put_more}
use Rattle.ssl_syntax.specs.Lines.{part_toks}
use Rattle.ssl_syntax.proofs.spelled_lines.put_parts.Goals as goal

pub loop-part-preserved : goal.loop-part-preserved
loop-part-preserved c =
    let within : c.loop-part.part-index < length c.in-Some.rest.now = omega arith in
    put_more comma part_toks c.put_part.new.out c.loop-part.out c.put_sign.new.out c.put_part-in-loop-part.new.out c.in-Some.rest.now c.loop-part.part-index c.part-item.result within c.part-item.is c.loop-part.invariant c.in_ok-put_sign.ensures c.in_ok-put_part-2.ensures
