use Rattle.c_static.proofs.Static.{graph-keeps-once}
use Rattle.c_static.proofs.graph_keeps_once.Goals as goal

pub returns : goal.returns
returns c = graph-keeps-once
