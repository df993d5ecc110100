use Rattle.c_program.proofs.arrivals.end_behind.Given as goal

-- the plan is the same
abbrev pub ghost-far_of : goal.ghost-far_of
ghost-far_of g a = g.plan
