use Rattle.std.proofs.Common.{ap, sym, ◌++◌, ◌∷◌, []}
use Rattle.std.proofs.lemmas.Result.{on_ok_weaker, on_err_weaker}
use Rattle.c_lang.specs.Items.{prototype_of}
use Rattle.c_text.proofs.Parts.{prototype_parts}
use Rattle.c_lang.specs.declared.tree.Var.TheVariants.{Ra, Cell}
use Rattle.c_text.specs.Expressions.{commas}
use Rattle.c_text.specs.Functions.{typed_toks}
use Rattle.c_text.specs.Tokens.{mark}
use Rattle.c_text.proofs.Written.{wrote_both, broke_then, broke_here, wrote_as, broke_as, any_err}
use Rattle.c_text.proofs.functions.put_prototype.Goals as goal

pub returns-in_err-put_start-clause-broke : goal.returns-in_err-put_start-clause-broke
returns-in_err-put_start-clause-broke g c = any_err _ (broke_as (prototype_parts (prototype_of c.args.function.now)) (broke_here _ c.in_err-put_start.ensures.broke))

pub returns-clause-wrote : goal.returns-clause-wrote
returns-clause-wrote g c =
    on_ok_weaker c.put_params.result
    (λ f. wrote_as (prototype_parts (prototype_of c.args.function.now)) (wrote_both c.in_ok-put_start.ensures.wrote (wrote_as (ap (λ is. typed_toks Ra ++ (commas (λ i. typed_toks (Cell i)) is ++ mark ")" ∷ mark ";" ∷ [])) (sym c.as_slice.ensures)) f))) c.put_params.ensures.wrote

pub returns-clause-broke : goal.returns-clause-broke
returns-clause-broke g c =
    on_err_weaker c.put_params.result
    (λ f. broke_as (prototype_parts (prototype_of c.args.function.now)) (broke_then c.in_ok-put_start.ensures.wrote (broke_as (ap (λ is. typed_toks Ra ++ (commas (λ i. typed_toks (Cell i)) is ++ mark ")" ∷ mark ";" ∷ [])) (sym c.as_slice.ensures)) f))) c.put_params.ensures.broke
