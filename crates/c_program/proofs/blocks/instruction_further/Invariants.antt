use Rattle.c_program.proofs.blocks.instruction_further.Given as goal

-- the plan is the same
abbrev pub ghost-leaves_apart : goal.ghost-leaves_apart
ghost-leaves_apart g a = g.plan

abbrev pub ghost-further_block_of : goal.ghost-further_block_of
ghost-further_block_of g a = g.plan
