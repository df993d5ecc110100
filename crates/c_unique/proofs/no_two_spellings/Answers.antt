use Rattle.c_unique.proofs.Whole.{program_same}
use Rattle.c_unique.proofs.no_two_spellings.Goals as goal

pub returns : goal.returns
returns c p q h k e = program_same p q h k e
