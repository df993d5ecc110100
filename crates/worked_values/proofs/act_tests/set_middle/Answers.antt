use Rattle.std.proofs.Common.{sym, subst}
use Rattle.rtl_core.specs.SoundTerms.{HasWidth}
use Rattle.worked_values.proofs.SmallMachine.{set_middle}
use Rattle.worked_values.proofs.act_tests.set_middle.Goals as goal

pub returns : goal.returns
returns c = λ m s. set_middle m s c.in_ok-inner.inner (subst (λ e. HasWidth m.widths e 32) (sym c.in_ok-inner.ensures) (c.number.ensures m s))
