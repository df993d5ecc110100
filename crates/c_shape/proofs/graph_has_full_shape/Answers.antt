use Rattle.c_shape.proofs.FullShape.{graph-has-full-shape}
use Rattle.c_shape.proofs.graph_has_full_shape.Goals as goal

pub returns : goal.returns
returns c = graph-has-full-shape
