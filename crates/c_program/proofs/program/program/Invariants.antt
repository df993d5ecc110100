use Rattle.c_program.proofs.program.program.Given as goal

-- the plan is the same
abbrev pub ghost-functions : goal.ghost-functions
ghost-functions g a = g.plan
