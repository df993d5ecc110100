use Rattle.std.proofs.Common.{ap, sym}
use Rattle.std.proofs.lemmas.Result.{on_ok_weaker, on_err_weaker}
use Rattle.std.specs.List.{flat_map}
use Rattle.c_text.specs.Functions.{function_toks}
use Rattle.c_text.specs.Items.{main_toks}
use Rattle.c_text.proofs.Parts.{segments_toks, table_toks, declared_toks, parts_are}
use Rattle.c_text.proofs.Written.{wrote_both, broke_then, broke_here, wrote_as, broke_as, any_err}
use Rattle.c_text.proofs.writer.put_items.Goals as goal

pub returns-in_err-put_machine-clause-broke : goal.returns-in_err-put_machine-clause-broke
returns-in_err-put_machine-clause-broke g c = any_err _ (broke_as (parts_are c.args.program.now) (broke_here _ c.in_err-put_machine.ensures.broke))

pub returns-in_err-put_segments-clause-broke : goal.returns-in_err-put_segments-clause-broke
returns-in_err-put_segments-clause-broke g c = any_err _ (broke_as (parts_are c.args.program.now) (broke_then c.in_ok-put_machine.ensures.wrote (broke_here _ (broke_as (ap (segments_toks 0) (sym c.as_slice.ensures)) c.in_err-put_segments.ensures.broke))))

pub returns-in_err-put_table-clause-broke : goal.returns-in_err-put_table-clause-broke
returns-in_err-put_table-clause-broke g c = any_err _ (broke_as (parts_are c.args.program.now) (broke_then c.in_ok-put_machine.ensures.wrote (broke_then (wrote_as (ap (segments_toks 0) (sym c.as_slice.ensures)) c.in_ok-put_segments.ensures.wrote) (broke_here _ (broke_as (ap table_toks (sym c.as_slice-2.ensures)) c.in_err-put_table.ensures.broke)))))

pub returns-in_err-put_prototypes-clause-broke : goal.returns-in_err-put_prototypes-clause-broke
returns-in_err-put_prototypes-clause-broke g c = any_err _ (broke_as (parts_are c.args.program.now) (broke_then c.in_ok-put_machine.ensures.wrote (broke_then (wrote_as (ap (segments_toks 0) (sym c.as_slice.ensures)) c.in_ok-put_segments.ensures.wrote) (broke_then (wrote_as (ap table_toks (sym c.as_slice-2.ensures)) c.in_ok-put_table.ensures.wrote) (broke_here _ (broke_as (ap (flat_map declared_toks) (sym c.as_slice-3.ensures)) c.in_err-put_prototypes.ensures.broke))))))

pub returns-in_err-put_functions-clause-broke : goal.returns-in_err-put_functions-clause-broke
returns-in_err-put_functions-clause-broke g c = any_err _ (broke_as (parts_are c.args.program.now) (broke_then c.in_ok-put_machine.ensures.wrote (broke_then (wrote_as (ap (segments_toks 0) (sym c.as_slice.ensures)) c.in_ok-put_segments.ensures.wrote) (broke_then (wrote_as (ap table_toks (sym c.as_slice-2.ensures)) c.in_ok-put_table.ensures.wrote) (broke_then (wrote_as (ap (flat_map declared_toks) (sym c.as_slice-3.ensures)) c.in_ok-put_prototypes.ensures.wrote) (broke_here _ (broke_as (ap (flat_map function_toks) (sym c.as_slice-4.ensures)) c.in_err-put_functions.ensures.broke)))))))

pub returns-clause-wrote : goal.returns-clause-wrote
returns-clause-wrote g c = on_ok_weaker c.put_main.result (λ f. wrote_as (parts_are c.args.program.now) (wrote_both c.in_ok-put_machine.ensures.wrote (wrote_both (wrote_as (ap (segments_toks 0) (sym c.as_slice.ensures)) c.in_ok-put_segments.ensures.wrote) (wrote_both (wrote_as (ap table_toks (sym c.as_slice-2.ensures)) c.in_ok-put_table.ensures.wrote) (wrote_both (wrote_as (ap (flat_map declared_toks) (sym c.as_slice-3.ensures)) c.in_ok-put_prototypes.ensures.wrote) (wrote_both (wrote_as (ap (flat_map function_toks) (sym c.as_slice-4.ensures)) c.in_ok-put_functions.ensures.wrote) ((wrote_as (ap (main_toks c.args.program.now.entry) (sym c.as_slice-5.ensures)) f)))))))) c.put_main.ensures.wrote

pub returns-clause-broke : goal.returns-clause-broke
returns-clause-broke g c = on_err_weaker c.put_main.result (λ f. broke_as (parts_are c.args.program.now) (broke_then c.in_ok-put_machine.ensures.wrote (broke_then (wrote_as (ap (segments_toks 0) (sym c.as_slice.ensures)) c.in_ok-put_segments.ensures.wrote) (broke_then (wrote_as (ap table_toks (sym c.as_slice-2.ensures)) c.in_ok-put_table.ensures.wrote) (broke_then (wrote_as (ap (flat_map declared_toks) (sym c.as_slice-3.ensures)) c.in_ok-put_prototypes.ensures.wrote) (broke_then (wrote_as (ap (flat_map function_toks) (sym c.as_slice-4.ensures)) c.in_ok-put_functions.ensures.wrote) ((broke_as (ap (main_toks c.args.program.now.entry) (sym c.as_slice-5.ensures)) f)))))))) c.put_main.ensures.broke
