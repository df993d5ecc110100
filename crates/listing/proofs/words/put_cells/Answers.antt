use Rattle.std.proofs.Common.{subst, sym, ap}
use Rattle.std.proofs.lemmas.Result.{on_err_weaker}
use Rattle.edge_io.specs.Output.{TookPart}
use Rattle.c_text.proofs.Written.{part_then}
use Rattle.listing.specs.Lists.{cells}
use Rattle.listing.proofs.words.put_cells.Goals as goal

pub returns-clause-part : goal.returns-clause-part
returns-clause-part g c = on_err_weaker c.put_more_cells.result (λ f. subst (TookPart _ _) (ap cells (sym c.in-Some.ensures.cases.0)) (part_then c.in_ok-put_number.ensures.took f)) c.put_more_cells.ensures.part
