use Rattle.std.proofs.Common.{◌∙◌, ◌++◌, ◌∷◌, [], ap}
use Rattle.params.proofs.CellLists.{range-on}
use Rattle.params.proofs.listing.cell_numbers.Goals as goal

pub loop-cell-preserved : goal.loop-cell-preserved
loop-cell-preserved c = c.in_ok-push.ensures.items ∙ ap (λ l. l ++ c.loop-cell.cell ∷ []) c.loop-cell.invariant ∙ range-on c.loop-cell.cell
