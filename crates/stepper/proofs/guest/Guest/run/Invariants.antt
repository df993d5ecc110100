use Rattle.stepper.proofs.Going.{Gone}
use Rattle.stepper.proofs.guest.Guest.run.Given as goal

-- as many steps went by, with their output taken
abbrev pub invariant-loop : goal.invariant-loop
invariant-loop g l = Gone l.fn.self l.self (g.K.Sink.output l.fn.out) (g.K.Sink.output l.out) l.counter
