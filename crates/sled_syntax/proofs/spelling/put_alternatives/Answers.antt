use Rattle.std.proofs.Common.{◌≡◌, ◌<◌, ◌++◌, length, ap, ◌∙◌, arith}
use Rattle.line_reading.specs.Signs.{bar}
use Rattle.line_reading.proofs.Puts.{put_more}
use Rattle.sled_syntax.specs.Lines.{sequence_toks}
use Rattle.sled_syntax.proofs.spelling.put_alternatives.Goals as goal

pub loop-items-preserved : goal.loop-items-preserved
loop-items-preserved c =
    let within : c.loop-items.items-index < length c.in-Some.rest.now = omega arith in
    let put : c.put_sequence-in-loop-items.new.out ≡ c.put_sign.new.out ++ sequence_toks c.items-item.result = c.in_ok-put_sequence-2.ensures ∙ ap (λ x. c.put_sign.new.out ++ sequence_toks x) c.as_slice-in-loop-items.ensures in
    put_more bar sequence_toks c.put_sequence.new.out c.loop-items.out c.put_sign.new.out c.put_sequence-in-loop-items.new.out c.in-Some.rest.now c.loop-items.items-index c.items-item.result within c.items-item.is c.loop-items.invariant c.in_ok-put_sign.ensures put
