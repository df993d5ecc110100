use Rattle.c_program.proofs.control.push_selected.Given as goal

-- the plan is the same
abbrev pub ghost-push_call : goal.ghost-push_call
ghost-push_call g a = g.plan

abbrev pub ghost-push_any_call : goal.ghost-push_any_call
ghost-push_any_call g a = g.plan
