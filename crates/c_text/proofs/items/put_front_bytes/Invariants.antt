use Rattle.std.proofs.Common.{take, ◌∷◌, []}
use Rattle.std.specs.List.{flat_map}
use Rattle.c_text.specs.Tokens.{mark, plain}
use Rattle.c_text.specs.Output.{Wrote}
use Rattle.c_text.proofs.items.put_front_bytes.Given as goal

abbrev pub invariant-loop-byte : goal.invariant-loop-byte
invariant-loop-byte g l = Wrote (g.K.Sink.output l.initial.out) (g.K.Sink.output l.out) (flat_map (λ n. plain n ∷ mark "," ∷ []) (take l.byte-index l.bytes))
