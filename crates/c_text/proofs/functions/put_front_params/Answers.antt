use Rattle.std.proofs.Common.{arith, ◌∷◌, ◌++◌, []}
use Rattle.c_lang.specs.declared.tree.Var.TheVariants.{Cell}
use Rattle.c_text.specs.Functions.{typed_toks}
use Rattle.c_text.specs.Tokens.{mark}
use Rattle.c_text.proofs.Loops.{wrote_next, broke_next, wrote_end}
use Rattle.c_text.proofs.Written.{wrote_nothing, any_err}
use Rattle.c_text.proofs.functions.put_front_params.Goals as goal

pub loop-place-init : goal.loop-place-init
loop-place-init g c = wrote_nothing

pub returns-in_err-put_typed-clause-broke : goal.returns-in_err-put_typed-clause-broke
returns-in_err-put_typed-clause-broke g c = any_err _ (broke_next (λ i. typed_toks (Cell i) ++ mark "," ∷ []) c.args.places.now c.loop-place.place-index 0 (omega arith) c.loop-place.invariant c.in_err-put_typed.ensures.broke)

pub loop-place-preserved : goal.loop-place-preserved
loop-place-preserved g c = wrote_next (λ i. typed_toks (Cell i) ++ mark "," ∷ []) c.args.places.now c.loop-place.place-index 0 (omega arith) c.loop-place.invariant c.in_ok-put_typed.ensures.wrote

pub returns-clause-wrote : goal.returns-clause-wrote
returns-clause-wrote g c = wrote_end (λ i. typed_toks (Cell i) ++ mark "," ∷ []) c.args.places.now c.loop-place.place-index c.loop-place-test.false c.loop-place.invariant
