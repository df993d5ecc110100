use Rattle.std.proofs.Common.{◌≡◌, take, count_by}
use Rattle.sled_match.specs.TreeSizes.{is_inner, is_leaf, longest}
use Rattle.sled_match.proofs.tree.Tree.measured.Given as goal

abbrev pub invariant-loop-node : goal.invariant-loop-node
invariant-loop-node l =
    (l.size.inner ≡ count_by is_inner (take l.node-index l.node-items))
    × (l.size.leaves ≡ count_by is_leaf (take l.node-index l.node-items))
    × (l.size.longest ≡ longest (take l.node-index l.node-items))
