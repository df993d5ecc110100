use Rattle.std.proofs.Common.{◌≡◌, ◌++◌, take}
use Rattle.line_reading.specs.Signs.{comma}
use Rattle.line_reading.specs.Spelling.{each_behind}
use Rattle.ssl_syntax.specs.Expressions.{expr_toks}
use Rattle.ssl_syntax.proofs.spelled_exprs.+spelling.Given as goal

abbrev pub invariant-put_args-loop-arg : goal.invariant-put_args-loop-arg
invariant-put_args-loop-arg l = l.out ≡ l.initial.out ++ each_behind comma expr_toks (take l.arg-index l.rest)
