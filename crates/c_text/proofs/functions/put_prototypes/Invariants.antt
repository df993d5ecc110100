use Rattle.std.proofs.Common.{take}
use Rattle.std.specs.List.{flat_map}
use Rattle.c_text.proofs.Parts.{declared_toks}
use Rattle.c_text.specs.Output.{Wrote}
use Rattle.c_text.proofs.functions.put_prototypes.Given as goal

abbrev pub invariant-loop-function : goal.invariant-loop-function
invariant-loop-function g l = Wrote (g.K.Sink.output l.initial.out) (g.K.Sink.output l.out) (flat_map declared_toks (take l.function-index l.functions))
