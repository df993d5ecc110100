use Rattle.c_program.proofs.control.push_control.Given as goal

-- the plan is the same
abbrev pub ghost-push_from_seq : goal.ghost-push_from_seq
ghost-push_from_seq g a = g.plan

abbrev pub ghost-push_from_slot : goal.ghost-push_from_slot
ghost-push_from_slot g a = g.plan
