use Rattle.translation.proofs.program_of.Given as goal

-- the same is known
abbrev pub ghost-emit : goal.ghost-emit
ghost-emit g a = g.told
