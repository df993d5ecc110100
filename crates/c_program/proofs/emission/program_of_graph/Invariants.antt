use Rattle.c_program.specs.Planning.{graph_plan}
use Rattle.c_program.proofs.emission.program_of_graph.Given as goal

-- the plan of the graph
abbrev pub ghost-program : goal.ghost-program
ghost-program g a = graph_plan g.told.setting g.told.table a.procs.now a.on.now.sums.now g.told.others
