use Rattle.c_program.proofs.arrivals.push_arrival.Given as goal

-- the plan is the same
abbrev pub ghost-push_jump : goal.ghost-push_jump
ghost-push_jump g a = g.plan

abbrev pub ghost-push_call : goal.ghost-push_call
ghost-push_call g a = g.plan

abbrev pub ghost-end_behind : goal.ghost-end_behind
ghost-end_behind g a = g.plan

abbrev pub ghost-push_any_call : goal.ghost-push_any_call
ghost-push_any_call g a = g.plan
