use Rattle.c_program.proofs.control.push_jump_ways.Given as goal

-- the plan is the same
abbrev pub ghost-push_arrival : goal.ghost-push_arrival
ghost-push_arrival g a = g.plan

abbrev pub ghost-is_selected : goal.ghost-is_selected
ghost-is_selected g a = g.plan

abbrev pub ghost-push_selected_code : goal.ghost-push_selected_code
ghost-push_selected_code g a = g.plan
