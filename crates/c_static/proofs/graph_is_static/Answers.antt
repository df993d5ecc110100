use Rattle.c_static.proofs.Static.{graph-is-static}
use Rattle.c_static.proofs.graph_is_static.Goals as goal

pub returns : goal.returns
returns c = graph-is-static
