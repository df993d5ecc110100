use Rattle.c_program.proofs.blocks.further_block.Given as goal

-- the plan is the same
abbrev pub ghost-instruction_further : goal.ghost-instruction_further
ghost-instruction_further g a = g.plan
