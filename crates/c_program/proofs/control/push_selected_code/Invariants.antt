use Rattle.c_program.proofs.control.push_selected_code.Given as goal

-- the plan is the same
abbrev pub ghost-push_selected : goal.ghost-push_selected
ghost-push_selected g a = g.plan

abbrev pub ghost-push_selected_cases : goal.ghost-push_selected_cases
ghost-push_selected_cases g a = g.plan
