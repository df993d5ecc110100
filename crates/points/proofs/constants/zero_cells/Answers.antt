use Rattle.std.proofs.Common.{◌∙◌, sym, ap, subst}
use Rattle.std.specs.Prelude.{replicate}
use Rattle.rtl_core.specs.SoundTerms.{Fit}
use Rattle.points.proofs.ConstantTerms.{zeros-fit}
use Rattle.points.proofs.constants.zero_cells.Goals as goal

pub returns : goal.returns
returns c =
    let is = c.from_vec.ensures ∙ c.in_ok-values.ensures.items_if_clones_equal (λ y e. e) ∙ ap (λ n. replicate n 0) c.len.ensures in
    subst (Fit c.args.machine.now) (sym is) (zeros-fit c.args.machine.now)
