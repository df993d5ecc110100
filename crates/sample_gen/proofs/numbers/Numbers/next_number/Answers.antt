use Rattle.std.proofs.Common.{◌*◌}
use Rattle.sample_gen.specs.Numbers.{next_state}
use Rattle.sample_gen.proofs.Sequence.{mod-add}
use Rattle.sample_gen.proofs.numbers.Numbers.next_number.Goals as goal

pub returns-clause-state : goal.returns-clause-state
unfolding next_state
returns-clause-state c = mod-add (c.args.self.now.state * 6364136223846793005) 1442695040888963407 18446744073709551616
