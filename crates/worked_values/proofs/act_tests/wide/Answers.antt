use Rattle.std.proofs.Common.{sym, subst, arith}
use Rattle.rtl_core.specs.declared.expr.Expr.TheVariants as E
use Rattle.rtl_core.specs.SoundTerms.{HasWidth}
use Rattle.worked_values.proofs.SmallMachine.{number_has}
use Rattle.worked_values.proofs.act_tests.wide.Goals as goal

pub returns : goal.returns
returns c = λ m s. subst (λ w. HasWidth m.widths (E.Const w c.args.n) 64) (sym c.double-width.ensures) (number_has m.widths 64 c.args.n (omega arith, omega arith) c.ranges.n.fits)
