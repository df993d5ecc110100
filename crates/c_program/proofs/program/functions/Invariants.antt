use Rattle.std.proofs.Common.{◌≡◌, ◌++◌, drop}
use Rattle.c_program.specs.Functions.{functions_of}
use Rattle.c_program.proofs.program.functions.Given as goal

-- the plan is the same
abbrev pub ghost-push_function : goal.ghost-push_function
ghost-push_function g a = g.plan

-- with the procedures to come they are the functions of all
abbrev pub invariant-loop-i : goal.invariant-loop-i
invariant-loop-i g l = l.out ++ functions_of g.plan l.nodes (drop l.i l.procs) ≡ functions_of g.plan l.nodes l.procs
