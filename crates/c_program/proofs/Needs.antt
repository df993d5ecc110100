-- The temporaries of a function are at least the first four.
use Rattle.std.proofs.Common.{◌≡◌, ◌≤◌, List, [], ◌∷◌, max, arith}
use Rattle.points.specs.declared.graph.Node.{Node}
use Rattle.c_program.specs.Functions.{most_need}

pub least-most : (ns : List Node) → 4 ≤ most_need ns
least-most [] = omega arith
least-most (n ∷ ns) = omega (arith, least-most ns)

pub first-most : (ns : List Node) → max 4 (most_need ns) ≡ most_need ns
first-most ns = omega (arith, least-most ns)
