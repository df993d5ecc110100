use Rattle.std.proofs.Common.{ap, sym}
use Rattle.std.proofs.lemmas.Result.{on_ok_weaker, on_err_weaker}
use Rattle.std.specs.List.{flat_map}
use Rattle.c_text.specs.Statements.{stmt_toks}
use Rattle.c_text.proofs.Written.{wrote_both, broke_then, broke_here, wrote_as, broke_as, any_err}
use Rattle.c_text.proofs.blocks.put_block.Goals as goal

pub returns-in_err-put_block_label-clause-broke : goal.returns-in_err-put_block_label-clause-broke
returns-in_err-put_block_label-clause-broke g c = any_err _ (broke_here _ c.in_err-put_block_label.ensures.broke)

pub returns-in_err-put_stmts-clause-broke : goal.returns-in_err-put_stmts-clause-broke
returns-in_err-put_stmts-clause-broke g c = any_err _ (broke_then c.in_ok-put_block_label.ensures.wrote (broke_here _ (broke_as (ap (flat_map stmt_toks) (sym c.as_slice.ensures)) c.in_err-put_stmts.ensures.broke)))

pub returns-clause-wrote : goal.returns-clause-wrote
returns-clause-wrote g c = on_ok_weaker c.put_end.result (λ f. wrote_both c.in_ok-put_block_label.ensures.wrote (wrote_both (wrote_as (ap (flat_map stmt_toks) (sym c.as_slice.ensures)) c.in_ok-put_stmts.ensures.wrote) f)) c.put_end.ensures.wrote

pub returns-clause-broke : goal.returns-clause-broke
returns-clause-broke g c = on_err_weaker c.put_end.result (λ f. broke_then c.in_ok-put_block_label.ensures.wrote (broke_then (wrote_as (ap (flat_map stmt_toks) (sym c.as_slice.ensures)) c.in_ok-put_stmts.ensures.wrote) f)) c.put_end.ensures.broke
