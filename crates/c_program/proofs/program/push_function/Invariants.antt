use Rattle.c_program.proofs.program.push_function.Given as goal

-- the plan is the same
abbrev pub ghost-function : goal.ghost-function
ghost-function g a = g.plan
