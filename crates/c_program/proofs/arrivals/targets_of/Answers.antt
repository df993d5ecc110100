use Rattle.c_program.proofs.Places.{no-key}
use Rattle.c_program.proofs.arrivals.targets_of.Goals as goal

pub returns-in-None : goal.returns-in-None
returns-in-None c = λ plan shows. absurd (no-key (λ t. t.at) c.args.on.now.tables.now c.args.a c.requires.known c.in-None.ensures)
