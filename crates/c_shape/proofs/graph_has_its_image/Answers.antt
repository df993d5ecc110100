use Rattle.c_shape.proofs.Images.{graph-has-its-image}
use Rattle.c_shape.proofs.graph_has_its_image.Goals as goal

pub returns : goal.returns
returns c = graph-has-its-image
