use Rattle.c_program.proofs.GraphFunctions.{graph-is-planned}
use Rattle.c_program.proofs.graph_is_planned.Goals as goal

pub returns : goal.returns
returns c = graph-is-planned
