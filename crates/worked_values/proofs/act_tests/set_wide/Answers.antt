use Rattle.worked_values.proofs.SmallMachine.{set_wide}
use Rattle.worked_values.proofs.act_tests.set_wide.Goals as goal

pub returns : goal.returns
returns c = λ m s. set_wide m s c.args.e (c.requires m s)
