use Rattle.c_program.proofs.control.push_selected_cases.Given as goal

-- the plan is the same
abbrev pub ghost-far_of : goal.ghost-far_of
ghost-far_of g a = g.plan
