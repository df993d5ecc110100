use Rattle.params.proofs.Lawful.{hold-cells}
use Rattle.params.proofs.laws.summaries_hold_cells.Goals as goal

pub returns : goal.returns
returns c = hold-cells
