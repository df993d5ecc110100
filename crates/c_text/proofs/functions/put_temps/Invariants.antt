use Rattle.c_text.specs.Functions.{temps_toks}
use Rattle.c_text.specs.Output.{Wrote}
use Rattle.c_text.proofs.functions.put_temps.Given as goal

abbrev pub invariant-loop-place : goal.invariant-loop-place
invariant-loop-place g l = Wrote (g.K.Sink.output l.initial.out) (g.K.Sink.output l.out) (temps_toks 0 l.place)
