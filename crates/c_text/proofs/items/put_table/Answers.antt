use Rattle.std.proofs.Common.{ap, sym, ◌∷◌, []}
use Rattle.std.proofs.lemmas.Result.{on_ok_weaker, on_err_weaker}
use Rattle.c_text.specs.Tokens.{plain, word, mark}
use Rattle.c_text.proofs.Written.{wrote_both, broke_then, broke_here, wrote_as, broke_as, any_err}
use Rattle.c_text.proofs.items.put_table.Goals as goal

pub returns-in_err-put_array-clause-broke : goal.returns-in_err-put_array-clause-broke
returns-in_err-put_array-clause-broke g c = any_err _ (broke_here _ (broke_as (ap (λ k. word "const" ∷ word "u64" ∷ word "uq_segs" ∷ mark "[" ∷ plain k ∷ mark "]" ∷ mark "=" ∷ mark "{" ∷ []) (sym c.row_count.ensures)) c.in_err-put_array.ensures.broke))

pub returns-clause-wrote : goal.returns-clause-wrote
returns-clause-wrote g c = on_ok_weaker c.put_rows.result (λ f. wrote_both (wrote_as (ap (λ k. word "const" ∷ word "u64" ∷ word "uq_segs" ∷ mark "[" ∷ plain k ∷ mark "]" ∷ mark "=" ∷ mark "{" ∷ []) (sym c.row_count.ensures)) c.in_ok-put_array.ensures.wrote) f) c.put_rows.ensures.wrote

pub returns-clause-broke : goal.returns-clause-broke
returns-clause-broke g c = on_err_weaker c.put_rows.result (λ f. broke_then (wrote_as (ap (λ k. word "const" ∷ word "u64" ∷ word "uq_segs" ∷ mark "[" ∷ plain k ∷ mark "]" ∷ mark "=" ∷ mark "{" ∷ []) (sym c.row_count.ensures)) c.in_ok-put_array.ensures.wrote) f) c.put_rows.ensures.broke
