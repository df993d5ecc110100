use Rattle.worked_values.proofs.SmallMachine.{set_word}
use Rattle.worked_values.proofs.act_tests.set_word.Goals as goal

pub returns : goal.returns
returns c = λ m s. set_word m s c.args.cell c.args.e c.requires.cell (c.requires.value m s)
