use Rattle.std.proofs.Common.{arith}
use Rattle.worked_values.proofs.SmallMachine.{number_has}
use Rattle.worked_values.proofs.act_tests.flag.Goals as goal

pub returns-then-holds : goal.returns-then-holds
returns-then-holds c = λ m s. number_has m.widths 1 1 (omega arith, omega arith) (omega arith)

pub returns : goal.returns
returns c = λ m s. number_has m.widths 1 0 (omega arith, omega arith) (omega arith)
