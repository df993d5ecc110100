use Rattle.std.proofs.Common.{ap, sym}
use Rattle.std.proofs.lemmas.Result.{on_ok_weaker, on_err_weaker}
use Rattle.c_lang.specs.declared.tree.Var.TheVariants.{Cell}
use Rattle.c_text.specs.Functions.{local_toks}
use Rattle.c_text.specs.Blocks.{block_toks}
use Rattle.std.specs.List.{flat_map}
use Rattle.c_text.proofs.Written.{wrote_both, broke_then, broke_here, wrote_as, broke_as, any_err}
use Rattle.c_text.proofs.functions.put_body.Goals as goal

pub returns-in_err-put_local-clause-broke : goal.returns-in_err-put_local-clause-broke
returns-in_err-put_local-clause-broke g c = any_err _ (broke_here _ c.in_err-put_local.ensures.broke)

pub returns-in_err-put_locals-clause-broke : goal.returns-in_err-put_locals-clause-broke
returns-in_err-put_locals-clause-broke g c = any_err _ (broke_then c.in_ok-put_local.ensures.wrote (broke_here _ (broke_as (ap (flat_map (λ i. local_toks (Cell i))) (sym c.as_slice.ensures)) c.in_err-put_locals.ensures.broke)))

pub returns-in_err-put_temps-clause-broke : goal.returns-in_err-put_temps-clause-broke
returns-in_err-put_temps-clause-broke g c = any_err _ (broke_then c.in_ok-put_local.ensures.wrote (broke_then (wrote_as (ap (flat_map (λ i. local_toks (Cell i))) (sym c.as_slice.ensures)) c.in_ok-put_locals.ensures.wrote) (broke_here _ c.in_err-put_temps.ensures.broke)))

pub returns-in_err-put_blocks-clause-broke : goal.returns-in_err-put_blocks-clause-broke
returns-in_err-put_blocks-clause-broke g c = any_err _ (broke_then c.in_ok-put_local.ensures.wrote (broke_then (wrote_as (ap (flat_map (λ i. local_toks (Cell i))) (sym c.as_slice.ensures)) c.in_ok-put_locals.ensures.wrote) (broke_then c.in_ok-put_temps.ensures.wrote (broke_here _ (broke_as (ap (flat_map block_toks) (sym c.as_slice-2.ensures)) c.in_err-put_blocks.ensures.broke)))))

pub returns-clause-wrote : goal.returns-clause-wrote
returns-clause-wrote g c = on_ok_weaker c.put_gap.result (λ f. wrote_both c.in_ok-put_local.ensures.wrote (wrote_both (wrote_as (ap (flat_map (λ i. local_toks (Cell i))) (sym c.as_slice.ensures)) c.in_ok-put_locals.ensures.wrote) (wrote_both c.in_ok-put_temps.ensures.wrote (wrote_both (wrote_as (ap (flat_map block_toks) (sym c.as_slice-2.ensures)) c.in_ok-put_blocks.ensures.wrote) f)))) c.put_gap.ensures.wrote

pub returns-clause-broke : goal.returns-clause-broke
returns-clause-broke g c = on_err_weaker c.put_gap.result (λ f. broke_then c.in_ok-put_local.ensures.wrote (broke_then (wrote_as (ap (flat_map (λ i. local_toks (Cell i))) (sym c.as_slice.ensures)) c.in_ok-put_locals.ensures.wrote) (broke_then c.in_ok-put_temps.ensures.wrote (broke_then (wrote_as (ap (flat_map block_toks) (sym c.as_slice-2.ensures)) c.in_ok-put_blocks.ensures.wrote) f)))) c.put_gap.ensures.broke
