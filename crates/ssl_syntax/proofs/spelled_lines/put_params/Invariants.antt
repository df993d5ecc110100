use Rattle.std.proofs.Common.{◌≡◌, ◌++◌, take}
use Rattle.line_reading.specs.Signs.{comma}
use Rattle.line_reading.specs.Spelling.{each_behind}
use Rattle.ssl_syntax.specs.Lines.{param_toks}
use Rattle.ssl_syntax.proofs.spelled_lines.put_params.Given as goal

abbrev pub invariant-loop-param : goal.invariant-loop-param
invariant-loop-param l = l.out ≡ l.initial.out ++ each_behind comma param_toks (take l.param-index l.rest)
