use Rattle.std.proofs.Common.{[]}
use Rattle.c_text.specs.Output.{Wrote}
use Rattle.c_text.proofs.statements.put_indent.Given as goal

abbrev pub invariant-loop : goal.invariant-loop
invariant-loop g l = Wrote (g.K.Sink.output l.initial.out) (g.K.Sink.output l.out) []
