use Rattle.c_static.proofs.Static.{graph-keeps-known}
use Rattle.c_static.proofs.graph_keeps_known.Goals as goal

pub returns : goal.returns
returns c = graph-keeps-known
