use Rattle.c_shape.proofs.ItsFunctions.{graph-has-its-functions}
use Rattle.c_shape.proofs.graph_has_its_functions.Goals as goal

pub returns : goal.returns
returns c = graph-has-its-functions
