use Rattle.std.proofs.Common.{take}
use Rattle.std.specs.List.{flat_map}
use Rattle.c_text.specs.Output.{Wrote}
use Rattle.c_text.specs.Statements.{stmt_toks}
use Rattle.c_text.proofs.statements.+stmt.Given as goal

abbrev pub invariant-put_stmts-loop-stmt : goal.invariant-put_stmts-loop-stmt
invariant-put_stmts-loop-stmt g l = Wrote (g.K.Sink.output l.initial.out) (g.K.Sink.output l.out) (flat_map stmt_toks (take l.stmt-index l.stmts))
