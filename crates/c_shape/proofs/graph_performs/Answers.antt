use Rattle.c_shape.proofs.GraphPerforming.{graph-performs}
use Rattle.c_shape.proofs.graph_performs.Goals as goal

pub returns : goal.returns
returns c = graph-performs
