use Rattle.c_program.proofs.arrivals.push_any_call.Given as goal

-- the plan is the same
abbrev pub ghost-far_of : goal.ghost-far_of
ghost-far_of g a = g.plan
