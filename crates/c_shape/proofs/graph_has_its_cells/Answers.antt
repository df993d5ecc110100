use Rattle.c_shape.proofs.ItsCells.{graph-has-its-cells}
use Rattle.c_shape.proofs.graph_has_its_cells.Goals as goal

pub returns : goal.returns
returns c = graph-has-its-cells
