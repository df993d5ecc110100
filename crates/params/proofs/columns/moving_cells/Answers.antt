use Rattle.std.proofs.Common.{◌∙◌, ◌++◌, ◌∷◌, [], ap}
use Rattle.std.specs.Prelude.{filter, not, if◌then◌else◌}
use Rattle.std.specs.List.{range_with_len}
use Rattle.params.specs.Cells.{is_zero}
use Rattle.params.proofs.CellLists.{chosen-on}
use Rattle.params.proofs.columns.moving_cells.Goals as goal

pub loop-cell-preserved : goal.loop-cell-preserved
loop-cell-preserved c =
    let n = c.loop-cell.cell in
    c.in_ok-push_if.ensures ∙ ap (λ l. l ++ (if not c.is_zero.result then n ∷ [] else [])) c.loop-cell.invariant ∙ ap (λ b. filter (λ d. not (is_zero c.args.zero d)) (range_with_len 0 n) ++ (if not b then n ∷ [] else [])) c.is_zero.ensures ∙ chosen-on (λ d. not (is_zero c.args.zero d)) n
