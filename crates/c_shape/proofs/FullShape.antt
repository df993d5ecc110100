-- The program of a graph has its full shape.
use Rattle.c_shape.specs.Laws.{GraphHasFullShape}
use Rattle.c_shape.proofs.GraphPerforming.{graph-performs}
use Rattle.c_shape.proofs.Images.{graph-has-its-image}
use Rattle.c_shape.proofs.ItsCells.{graph-has-its-cells}
use Rattle.c_shape.proofs.ItsFunctions.{graph-has-its-functions}

pub graph-has-full-shape : GraphHasFullShape
graph-has-full-shape setting table roots g sums others parts entry d are moving at_root = record {
  functions = graph-has-its-functions setting table roots g sums others parts entry d are moving at_root;
  cells = graph-has-its-cells setting table roots g sums others parts entry d are moving at_root;
  performs = graph-performs setting table roots g sums others parts entry d are moving at_root;
  image = graph-has-its-image setting table roots g sums others parts entry d are moving at_root;
}
