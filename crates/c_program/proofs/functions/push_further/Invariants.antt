use Rattle.c_program.proofs.functions.push_further.Given as goal

-- the plan is the same
abbrev pub ghost-further_block : goal.ghost-further_block
ghost-further_block g a = g.plan
