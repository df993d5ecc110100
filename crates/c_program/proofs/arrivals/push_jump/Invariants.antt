use Rattle.c_program.proofs.arrivals.push_jump.Given as goal

-- the plan is the same
abbrev pub ghost-push_any_jump : goal.ghost-push_any_jump
ghost-push_any_jump g a = g.plan
