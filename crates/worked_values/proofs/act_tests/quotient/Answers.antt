use Rattle.std.proofs.Common.{sym, subst}
use Rattle.rtl_core.specs.SoundTerms.{HasWidth}
use Rattle.worked_values.proofs.SmallMachine.{quotient_has}
use Rattle.worked_values.proofs.act_tests.quotient.Goals as goal

pub returns : goal.returns
returns c = λ m s.
    quotient_has m.widths c.in_ok-left.left c.in_ok-right.right
    (subst (λ e. HasWidth m.widths e 64) (sym c.in_ok-left.ensures) (c.wide-seven.ensures m s))
    (subst (λ e. HasWidth m.widths e 64) (sym c.in_ok-right.ensures) (c.wide-divisor.ensures m s))
