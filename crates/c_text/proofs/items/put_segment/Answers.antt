use Rattle.std.proofs.Common.{ap, sym, ◌∙◌, ◌++◌, ◌∷◌, [], length}
use Rattle.std.proofs.lemmas.Result.{on_ok_weaker, on_err_weaker}
use Rattle.c_text.specs.Tokens.{name, plain, word, mark}
use Rattle.c_text.specs.Expressions.{listed}
use Rattle.c_lang.specs.Items.{or_zero}
use Rattle.c_text.specs.Words.{segment_word}
use Rattle.c_text.proofs.Written.{wrote_both, broke_then, broke_here, wrote_as, broke_as, any_err}
use Rattle.c_text.proofs.items.put_segment.Goals as goal

pub returns-in_err-put_array-clause-broke : goal.returns-in_err-put_array-clause-broke
returns-in_err-put_array-clause-broke g c = any_err _ (broke_here _ (broke_as (ap (λ k. word "const" ∷ word "u8" ∷ name (segment_word c.args.place) ∷ mark "[" ∷ plain k ∷ mark "]" ∷ mark "=" ∷ mark "{" ∷ []) (sym (c.byte_count.ensures ∙ ap (λ bs. length (or_zero bs)) c.as_slice-bytes.ensures))) c.in_err-put_array.ensures.broke))

pub returns-clause-wrote : goal.returns-clause-wrote
returns-clause-wrote g c = on_ok_weaker c.put_all_bytes.result (λ f. wrote_both (wrote_as (ap (λ k. word "const" ∷ word "u8" ∷ name (segment_word c.args.place) ∷ mark "[" ∷ plain k ∷ mark "]" ∷ mark "=" ∷ mark "{" ∷ []) (sym (c.byte_count.ensures ∙ ap (λ bs. length (or_zero bs)) c.as_slice-bytes.ensures))) c.in_ok-put_array.ensures.wrote) (wrote_as (ap (λ bs. listed (λ n. plain n ∷ []) (or_zero bs) ++ mark "}" ∷ mark ";" ∷ []) (sym c.as_slice-bytes.ensures)) f)) c.put_all_bytes.ensures.wrote

pub returns-clause-broke : goal.returns-clause-broke
returns-clause-broke g c = on_err_weaker c.put_all_bytes.result (λ f. broke_then (wrote_as (ap (λ k. word "const" ∷ word "u8" ∷ name (segment_word c.args.place) ∷ mark "[" ∷ plain k ∷ mark "]" ∷ mark "=" ∷ mark "{" ∷ []) (sym (c.byte_count.ensures ∙ ap (λ bs. length (or_zero bs)) c.as_slice-bytes.ensures))) c.in_ok-put_array.ensures.wrote) (broke_as (ap (λ bs. listed (λ n. plain n ∷ []) (or_zero bs) ++ mark "}" ∷ mark ";" ∷ []) (sym c.as_slice-bytes.ensures)) f)) c.put_all_bytes.ensures.broke
