use Rattle.std.proofs.Common.{take, ◌∷◌, ◌++◌, []}
use Rattle.std.specs.List.{flat_map}
use Rattle.c_text.specs.Expressions.{expr_toks}
use Rattle.c_text.specs.Tokens.{mark}
use Rattle.c_text.specs.Output.{Wrote}
use Rattle.c_text.proofs.atoms.put_front_args.Given as goal

abbrev pub invariant-loop-arg : goal.invariant-loop-arg
invariant-loop-arg g l = Wrote (g.K.Sink.output l.initial.out) (g.K.Sink.output l.out) (flat_map (λ e. expr_toks e ++ mark "," ∷ []) (take l.arg-index l.args))
