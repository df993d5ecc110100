use Rattle.std.proofs.Common.{arith}
use Rattle.worked_values.proofs.SmallMachine.{number_has}
use Rattle.worked_values.proofs.act_tests.number.Goals as goal

pub returns : goal.returns
returns c = λ m s. number_has m.widths 32 c.args.n (omega arith, omega arith) c.ranges.n.fits
