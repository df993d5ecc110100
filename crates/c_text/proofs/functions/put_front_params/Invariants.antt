use Rattle.std.proofs.Common.{take, ◌∷◌, ◌++◌, []}
use Rattle.std.specs.List.{flat_map}
use Rattle.c_lang.specs.declared.tree.Var.TheVariants.{Cell}
use Rattle.c_text.specs.Functions.{typed_toks}
use Rattle.c_text.specs.Tokens.{mark}
use Rattle.c_text.specs.Output.{Wrote}
use Rattle.c_text.proofs.functions.put_front_params.Given as goal

abbrev pub invariant-loop-place : goal.invariant-loop-place
invariant-loop-place g l = Wrote (g.K.Sink.output l.initial.out) (g.K.Sink.output l.out) (flat_map (λ i. typed_toks (Cell i) ++ mark "," ∷ []) (take l.place-index l.places))
