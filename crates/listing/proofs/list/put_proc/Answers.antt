use Rattle.std.proofs.Common.{◌++◌, subst, ap}
use Rattle.std.specs.List.{flat_map}
use Rattle.std.proofs.lemmas.Result.{on_err_weaker}
use Rattle.edge_io.specs.Output.{TookPart}
use Rattle.c_text.proofs.Written.{part_here, part_then, any_err}
use Rattle.listing.specs.Lists.{proc_line, place_text}
use Rattle.listing.proofs.list.put_proc.Goals as goal

pub returns-in_err-put_proc_line-clause-part : goal.returns-in_err-put_proc_line-clause-part
returns-in_err-put_proc_line-clause-part g c = any_err _ (part_here (flat_map (place_text c.args.graph.now) c.args.proc.now.body) c.in_err-put_proc_line.ensures.part)

pub returns-clause-part : goal.returns-clause-part
returns-clause-part g c =
    on_err_weaker c.put_body.result
    (λ f. subst (TookPart (g.K.Sink.output c.args.out.now) (g.K.Sink.output c.put_body.new.out)) (ap (λ b. proc_line c.args.proc.now c.args.sum.now ++ flat_map (place_text c.args.graph.now) b) c.as_slice.ensures)
    (part_then c.in_ok-put_proc_line.ensures.took f)) c.put_body.ensures.part
