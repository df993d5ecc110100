use Rattle.std.proofs.Common.{◌≡◌, ◌≤◌, drop, max}
use Rattle.c_program.specs.Functions.{nodes_at, most_need}
use Rattle.c_program.proofs.functions.most_temporaries_of.Given as goal

-- with the nodes to come it is the most of all
abbrev pub invariant-loop-k : goal.invariant-loop-k
invariant-loop-k l = (max l.most (most_need (nodes_at l.nodes (drop l.k-index l.places))) ≡ most_need (nodes_at l.nodes l.places)) × (4 ≤ l.most)
