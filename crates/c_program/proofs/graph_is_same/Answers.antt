use Rattle.c_program.proofs.GraphFunctions.{graph-is-same}
use Rattle.c_program.proofs.graph_is_same.Goals as goal

pub returns : goal.returns
returns c = graph-is-same
