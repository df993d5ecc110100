use Rattle.std.proofs.Common.{◌∙◌, ◌++◌, ◌∷◌, [], ◌+◌, ap}
use Rattle.params.proofs.CellLists.{row-on}
use Rattle.params.proofs.named.add_row.Goals as goal

pub loop-i-preserved : goal.loop-i-preserved
loop-i-preserved c = c.in_ok-push.ensures.ok ∙ ap (λ l. l ++ (c.args.first + c.loop-i.i) ∷ []) c.loop-i.invariant ∙ row-on c.args.cells.now c.args.first c.loop-i.i
