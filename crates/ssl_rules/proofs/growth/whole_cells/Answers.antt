use Rattle.std.proofs.Common.{ℕ, ◌+◌, ◌-◌, List, [], ◌∷◌, ◌++◌, ap, ◌∙◌}
use Rattle.rtl_core.specs.declared.machine.CellPart.{CellPart}
use Rattle.ssl_rules.proofs.GrowthLemmas.{whole_cells-more}
use Rattle.ssl_rules.proofs.growth.whole_cells.Goals as goal

abbrev with_part : goal.In_ok-push → List CellPart → ℕ → List CellPart
with_part c parts w = parts ++ record { cell = c.args.first + c.loop-k.k; lo = 0; hi = w - 1 } ∷ []

pub loop-k-preserved : goal.loop-k-preserved
loop-k-preserved c =
    c.in_ok-push.ensures.ok ∙ ap (λ w. with_part c c.loop-k.parts w) c.bits.ensures.value ∙ ap (λ l. with_part c l c.args.width) c.loop-k.invariant
    ∙ whole_cells-more c.args.first c.args.width c.loop-k.k
