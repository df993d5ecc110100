use Rattle.c_program.proofs.blocks.point_block.Given as goal

-- the plan is the same
abbrev pub ghost-instruction_block : goal.ghost-instruction_block
ghost-instruction_block g a = g.plan
