use Rattle.std.proofs.Common.{◌≡◌, List, ℕ, [], ◌∷◌, take, replicate, ap, ◌∙◌}
use Rattle.std.proofs.lemmas.List.{take-replicate}
use Rattle.rtl_core.specs.Windows.{put_cells}
use Rattle.rtl_meaning.proofs.window_moves.clear_cells.Goals as goal

pub returns-clause-values : goal.returns-clause-values
returns-clause-values c =
    let cells = c.args.cells.now.values in
    let put = λ (vs : List ℕ). put_cells c.args.first vs cells in
    c.put_values.ensures.values ∙ ap (λ k. put (take k (0 ∷ 0 ∷ 0 ∷ 0 ∷ 0 ∷ 0 ∷ 0 ∷ 0 ∷ []))) c.from.ensures
    ∙ ap put (take-replicate c.args.count 8 0 c.requires.few)
