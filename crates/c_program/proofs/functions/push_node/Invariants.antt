use Rattle.c_program.proofs.functions.push_node.Given as goal

-- the plan is the same
abbrev pub ghost-push_block_if : goal.ghost-push_block_if
ghost-push_block_if g a = g.plan

abbrev pub ghost-push_further : goal.ghost-push_further
ghost-push_further g a = g.plan
