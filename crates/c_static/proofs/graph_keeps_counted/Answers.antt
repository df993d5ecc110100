use Rattle.c_static.proofs.Static.{graph-keeps-counted}
use Rattle.c_static.proofs.graph_keeps_counted.Goals as goal

pub returns : goal.returns
returns c = graph-keeps-counted
