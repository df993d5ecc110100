use Rattle.std.proofs.lemmas.Result.{on_err_weaker}
use Rattle.c_text.proofs.Written.{part_here, part_then, any_err}
use Rattle.listing.specs.Lists.{node_tables}
use Rattle.listing.proofs.list.put_node.Goals as goal

pub returns-in_err-put_point-clause-part : goal.returns-in_err-put_point-clause-part
returns-in_err-put_point-clause-part g c = any_err _ (part_here (node_tables c.args.tables.now c.args.node.now) c.in_err-put_point.ensures.part)

pub returns-clause-part : goal.returns-clause-part
returns-clause-part g c = on_err_weaker c.put_node_table.result (part_then c.in_ok-put_point.ensures.took) c.put_node_table.ensures.part
