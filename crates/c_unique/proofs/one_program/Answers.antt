use Rattle.c_unique.proofs.Whole.{text_same}
use Rattle.c_unique.proofs.one_program.Goals as goal

pub returns : goal.returns
returns c text p q a b = text_same text p q a b
