use Rattle.std.proofs.Common.{◌≡◌, ◌<◌, [], ◌∷◌, ◌++◌, length, ap, ◌∙◌, arith}
use Rattle.text_lex.specs.declared.token.Token.TheVariants.{Name}
use Rattle.line_reading.specs.Signs.{comma}
use Rattle.line_reading.specs.Spelling.{name_toks}
use Rattle.line_reading.proofs.Puts.{put_more}
use Rattle.line_reading.proofs.spelled.put_names.Goals as goal

pub loop-name-preserved : goal.loop-name-preserved
loop-name-preserved c =
    let within : c.loop-name.name-index < length c.in-Some.rest.now = omega arith in
    let named : c.put_name-in-loop-name.new.out ≡ c.put_sign.new.out ++ Name c.name-item.result ∷ [] = c.in_ok-put_name-2.ensures ∙ ap (λ x. c.put_sign.new.out ++ Name x ∷ []) c.as_slice-in-loop-name.ensures in
    put_more comma name_toks c.put_name.new.out c.loop-name.out c.put_sign.new.out c.put_name-in-loop-name.new.out c.in-Some.rest.now c.loop-name.name-index c.name-item.result within c.name-item.is c.loop-name.invariant c.in_ok-put_sign.ensures named
