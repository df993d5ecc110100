use Rattle.c_static.proofs.Static.{graph-keeps-placed}
use Rattle.c_static.proofs.graph_keeps_placed.Goals as goal

pub returns : goal.returns
returns c = graph-keeps-placed
