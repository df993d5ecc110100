use Rattle.c_static.proofs.Static.{graph-keeps-sized}
use Rattle.c_static.proofs.graph_keeps_sized.Goals as goal

pub returns : goal.returns
returns c = graph-keeps-sized
