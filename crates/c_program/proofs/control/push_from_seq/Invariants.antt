use Rattle.c_program.proofs.control.push_from_seq.Given as goal

-- the plan is the same
abbrev pub ghost-push_jump_ways : goal.ghost-push_jump_ways
ghost-push_jump_ways g a = g.plan
