use Rattle.c_program.proofs.TreeLaws.{choosing}
use Rattle.c_program.proofs.halves_choose.Goals as goal

pub returns : goal.returns
returns c = choosing
