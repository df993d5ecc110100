use Rattle.c_program.proofs.control.push_from_slot.Given as goal

-- the plan is the same
abbrev pub ghost-push_arrival : goal.ghost-push_arrival
ghost-push_arrival g a = g.plan
