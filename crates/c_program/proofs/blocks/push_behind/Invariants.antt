use Rattle.c_program.proofs.blocks.push_behind.Given as goal

-- the plan is the same
abbrev pub ghost-push_control : goal.ghost-push_control
ghost-push_control g a = g.plan
