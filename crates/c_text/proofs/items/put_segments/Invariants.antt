use Rattle.std.proofs.Common.{take}
use Rattle.c_text.proofs.Parts.{segments_toks}
use Rattle.c_text.specs.Output.{Wrote}
use Rattle.c_text.proofs.items.put_segments.Given as goal

abbrev pub invariant-loop-place : goal.invariant-loop-place
invariant-loop-place g l = Wrote (g.K.Sink.output l.initial.out) (g.K.Sink.output l.out) (segments_toks 0 (take l.place l.segments))
