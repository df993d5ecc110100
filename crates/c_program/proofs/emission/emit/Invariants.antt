use Rattle.c_program.proofs.emission.emit.Given as goal

-- the same is known
abbrev pub ghost-program_of_graph : goal.ghost-program_of_graph
ghost-program_of_graph g a = g.told
