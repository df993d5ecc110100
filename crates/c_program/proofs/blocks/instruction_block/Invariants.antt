use Rattle.c_program.proofs.blocks.instruction_block.Given as goal

-- the plan is the same
abbrev pub ghost-push_behind : goal.ghost-push_behind
ghost-push_behind g a = g.plan
