use Rattle.std.proofs.Common.{sym, subst}
use Rattle.rtl_core.specs.SoundTerms.{HasWidth}
use Rattle.rtl_core.specs.declared.expr.Un.TheVariants.{Not}
use Rattle.worked_values.proofs.SmallMachine.{cell_has, turned_has}
use Rattle.worked_values.proofs.act_tests.turned.Goals as goal

pub loop-i-init : goal.loop-i-init
loop-i-init c = λ m s. cell_has m s

pub loop-i-preserved : goal.loop-i-preserved
loop-i-preserved c = λ m s. turned_has m.widths Not c.in_ok-inner.inner 64 (subst (λ e. HasWidth m.widths e 64) (sym c.in_ok-inner.ensures) (c.loop-i.invariant m s))
