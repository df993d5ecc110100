use Rattle.c_program.proofs.entering.+push_choice.Given as goal

abbrev pub decreases-push_choice : goal.decreases-push_choice
decreases-push_choice l = l.levels
