use Rattle.std.proofs.Common.{take, ◌∷◌, ◌++◌, []}
use Rattle.std.specs.List.{flat_map}
use Rattle.c_text.specs.Tokens.{mark, plain}
use Rattle.c_lang.specs.Items.{segment_numbers}
use Rattle.c_text.specs.Expressions.{listed}
use Rattle.c_text.specs.Output.{Wrote}
use Rattle.c_text.proofs.items.put_front_rows.Given as goal

abbrev pub invariant-loop-segment : goal.invariant-loop-segment
invariant-loop-segment g l = Wrote (g.K.Sink.output l.initial.out) (g.K.Sink.output l.out) (flat_map (λ s. listed (λ n. plain n ∷ []) (segment_numbers s) ++ mark "," ∷ []) (take l.segment-index l.segments))
