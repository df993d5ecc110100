use Rattle.std.proofs.Common.{subst, sym}
use Rattle.std.proofs.lemmas.Result.{on_ok_weaker, on_err_weaker}
use Rattle.edge_io.specs.Output.{TookPart}
use Rattle.c_text.specs.Output.{Took}
use Rattle.listing.proofs.Texts.{table_with}
use Rattle.listing.proofs.lines.put_table.Goals as goal

pub returns-clause-took : goal.returns-clause-took
returns-clause-took g c =
    on_ok_weaker c.put_line.result (subst (Took (g.K.Sink.output c.args.out.now) (g.K.Sink.output c.put_line.new.out)) (sym (table_with c.args.table.now c.as_slice-targets.result.now c.as_slice-targets.ensures))) c.put_line.ensures.took

pub returns-clause-part : goal.returns-clause-part
returns-clause-part g c =
    on_err_weaker c.put_line.result (subst (TookPart (g.K.Sink.output c.args.out.now) (g.K.Sink.output c.put_line.new.out)) (sym (table_with c.args.table.now c.as_slice-targets.result.now c.as_slice-targets.ensures))) c.put_line.ensures.part
