use Rattle.std.proofs.Common.{◌≡◌, ◌++◌, drop}
use Rattle.c_program.specs.Functions.{nodes_at, part_of}
use Rattle.c_program.proofs.functions.push_part.Given as goal

-- the plan is the same
abbrev pub ghost-push_node : goal.ghost-push_node
ghost-push_node g a = g.plan

-- with the nodes to come they are the blocks of all
abbrev pub invariant-loop-k : goal.invariant-loop-k
invariant-loop-k g l = l.out ++ part_of g.plan l.on.own.now.entry l.part (nodes_at l.nodes (drop l.k-index l.places)) ≡ l.initial.out ++ part_of g.plan l.on.own.now.entry l.part (nodes_at l.nodes l.places)
