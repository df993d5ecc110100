use Rattle.c_program.proofs.blocks.further_block_of.Given as goal

-- the plan is the same
abbrev pub ghost-push_arrival : goal.ghost-push_arrival
ghost-push_arrival g a = g.plan
