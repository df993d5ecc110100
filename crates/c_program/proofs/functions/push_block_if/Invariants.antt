use Rattle.c_program.proofs.functions.push_block_if.Given as goal

-- the plan is the same
abbrev pub ghost-point_block : goal.ghost-point_block
ghost-point_block g a = g.plan
