use Rattle.std.proofs.Common.{take, ◌∷◌, []}
use Rattle.std.specs.List.{flat_map}
use Rattle.c_text.specs.Tokens.{mark, long}
use Rattle.c_text.specs.Output.{Wrote}
use Rattle.c_text.proofs.items.put_front_values.Given as goal

abbrev pub invariant-loop-number : goal.invariant-loop-number
invariant-loop-number g l = Wrote (g.K.Sink.output l.initial.out) (g.K.Sink.output l.out) (flat_map (λ n. long n ∷ mark "," ∷ []) (take l.number-index l.numbers))
