use Rattle.c_program.proofs.Places.{no-key, none-unless}
use Rattle.c_program.proofs.arrivals.far_of.Goals as goal

pub returns-in-None-clause-far : goal.returns-in-None-clause-far
returns-in-None-clause-far g c =
    none-unless _ (λ s is. no-key (λ p. p.at) c.args.on.now.pads.now c.args.back (c.requires.1.pad s is) c.in-None.ensures)
