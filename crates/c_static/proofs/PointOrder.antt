-- No point is below itself.
use Rattle.std.proofs.Common.{◌≡◌, sym, ap, ◌∙◌}
use Rattle.std.specs.Ordering.{ordering_reverse}
use Rattle.std.specs.declared.cmp.Ordering.TheVariants.{Less, Greater}
use Rattle.rtl_core.specs.declared.point.Point.{Point}
use Rattle.rtl_core.specs.contracts.point.PointOrd.TheImpl as point_order
use Rattle.rtl_core.specs.contracts.point.PointOrd.TheImpl.Laws.{total-law}

pub never-below-itself : (p : Point) → point_order.cmp-value.it p p ≡ Less → ⊥
never-below-itself p h = let e = total-law.antisymm p p ∙ ap ordering_reverse h in let f : Less ≡ Greater = sym h ∙ e in cc
