use Rattle.std.proofs.Common.{ap, sym, ◌∷◌, []}
use Rattle.std.proofs.lemmas.Result.{on_ok_weaker, on_err_weaker}
use Rattle.c_text.specs.Tokens.{name, plain, word, mark}
use Rattle.c_text.proofs.Lines.{before_is}
use Rattle.c_text.proofs.Written.{wrote_as, broke_as}
use Rattle.c_text.proofs.items.put_array.Goals as goal

pub returns-clause-wrote : goal.returns-clause-wrote
returns-clause-wrote g c =
    on_ok_weaker c.put_atoms.result
    (wrote_as (ap (λ ts. word "const" ∷ name c.args.of_type.now ∷ ts) (sym (before_is c.args.named (plain c.args.count ∷ mark "]" ∷ mark "=" ∷ mark "{" ∷ []))))) c.put_atoms.ensures.wrote

pub returns-clause-broke : goal.returns-clause-broke
returns-clause-broke g c =
    on_err_weaker c.put_atoms.result
    (broke_as (ap (λ ts. word "const" ∷ name c.args.of_type.now ∷ ts) (sym (before_is c.args.named (plain c.args.count ∷ mark "]" ∷ mark "=" ∷ mark "{" ∷ []))))) c.put_atoms.ensures.broke
