use Rattle.c_read.proofs.BackLaws.{back}
use Rattle.c_read.proofs.laws.reads_back.Goals as goal

pub returns : goal.returns
returns c = back
