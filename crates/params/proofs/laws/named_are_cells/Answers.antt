use Rattle.params.proofs.NamedCells.{named-are-cells}
use Rattle.params.proofs.laws.named_are_cells.Goals as goal

pub returns : goal.returns
returns c = named-are-cells
