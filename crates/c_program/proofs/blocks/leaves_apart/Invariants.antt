use Rattle.c_program.proofs.blocks.leaves_apart.Given as goal

-- the plan is the same
abbrev pub ghost-is_selected : goal.ghost-is_selected
ghost-is_selected g a = g.plan
