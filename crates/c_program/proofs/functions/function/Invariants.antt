use Rattle.c_program.proofs.functions.function.Given as goal

-- the plan is the same
abbrev pub ghost-push_part : goal.ghost-push_part
ghost-push_part g a = g.plan
