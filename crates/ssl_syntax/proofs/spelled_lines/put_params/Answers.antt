use Rattle.std.proofs.Common.{◌≡◌, ◌<◌, ◌++◌, length, ap, sym, ◌∙◌, arith}
use Rattle.line_reading.specs.Signs.{comma}
use Rattle.line_reading.proofs.Puts.{put_more}
use Rattle.ssl_syntax.specs.Lines.{param_toks}
use Rattle.ssl_syntax.proofs.spelled_lines.put_params.Goals as goal

pub loop-param-preserved : goal.loop-param-preserved
loop-param-preserved c =
    let within : c.loop-param.param-index < length c.in-Some.rest.now = omega arith in
    put_more comma param_toks c.put_param.new.out c.loop-param.out c.put_sign.new.out c.put_param-in-loop-param.new.out c.in-Some.rest.now c.loop-param.param-index c.param-item.result within c.param-item.is c.loop-param.invariant c.in_ok-put_sign.ensures c.in_ok-put_param-2.ensures
