use Rattle.c_program.proofs.Places.{no-key}
use Rattle.c_program.proofs.arrivals.push_call.Goals as goal

pub returns-in-None : goal.returns-in-None
returns-in-None g c = absurd (no-key (λ s. s.entry) c.args.on.now.sums.now c.args.t c.requires.1.0 c.in-None.ensures)
