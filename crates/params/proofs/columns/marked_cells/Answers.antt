use Rattle.std.proofs.Common.{◌≡◌, ◌∙◌, ◌++◌, ◌∷◌, [], ap}
use Rattle.std.specs.Prelude.{◌&&◌, filter, not, if◌then◌else◌}
use Rattle.std.specs.List.{range_with_len}
use Rattle.params.specs.Cells.{is_chosen, is_zero}
use Rattle.params.specs.Leading.{mark}
use Rattle.params.proofs.CellLists.{chosen-on}
use Rattle.params.proofs.Choosing.{read-at}
use Rattle.params.proofs.columns.marked_cells.Goals as goal

pub loop-cell-preserved : goal.loop-cell-preserved
loop-cell-preserved c =
    let n = c.loop-cell.cell in
    let p = is_chosen c.args.columns.now c.args.zero c.args.place in
    let chosen : c.is_chosen.result ≡ p n =
    c.is_chosen.ensures ∙ ap (λ l. mark l c.args.place && not (is_zero c.args.zero n)) (c.as_slice.ensures ∙ read-at c.args.columns.now n c.index-columns-cell.result [] c.loop-cell-test.true c.index-columns-cell.is) in
    c.in_ok-push_if.ensures ∙ ap (λ l. l ++ (if c.is_chosen.result then n ∷ [] else [])) c.loop-cell.invariant ∙ ap (λ b. filter p (range_with_len 0 n) ++ (if b then n ∷ [] else [])) chosen ∙ chosen-on p n
