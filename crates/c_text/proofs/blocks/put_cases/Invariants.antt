use Rattle.std.proofs.Common.{take}
use Rattle.std.specs.List.{flat_map}
use Rattle.c_text.specs.Blocks.{case_toks}
use Rattle.c_text.specs.Output.{Wrote}
use Rattle.c_text.proofs.blocks.put_cases.Given as goal

abbrev pub invariant-loop-case : goal.invariant-loop-case
invariant-loop-case g l = Wrote (g.K.Sink.output l.initial.out) (g.K.Sink.output l.out) (flat_map (case_toks) (take l.case-index l.cases))
