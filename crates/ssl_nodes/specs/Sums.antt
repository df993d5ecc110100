-- Nodes by sums: of a body by those of the arguments.
use Rattle.std.specs.Prelude.{ℕ, ◌+◌, min, List, slice_get, unwrap_or}
use Rattle.ssl_rules.specs.declared.formula.Formula.{Formula, fold-Formula}
use Rattle.ssl_rules.specs.declared.formula.Formula.TheOpen.{Formula-F}
use Rattle.ssl_rules.specs.Formulas.{leaf_nodes}

-- a number of nodes; more than 256 are told as 257
abbrev pub few : ℕ → ℕ
few n = min n 257

abbrev pub node_sum : List ℕ → Formula-F ℕ → ℕ
node_sum ns (Formula-F.Param k) = unwrap_or (slice_get ns k) 1
node_sum ns (Formula-F.Leaf l) = leaf_nodes l
node_sum ns (Formula-F.Load n a) = 1 + a
node_sum ns (Formula-F.Un op a) = 1 + a
node_sum ns (Formula-F.Bin op a b) = 1 + a + b
node_sum ns (Formula-F.Slice a lo hi) = 1 + a
node_sum ns (Formula-F.Zext w a) = 1 + a
node_sum ns (Formula-F.Sext w a) = 1 + a
node_sum ns (Formula-F.If c a b) = 1 + c + a + b

-- the nodes of a body, where a parameter counts as many as its argument has
unfoldable pub nodes_with : List ℕ → Formula → ℕ
nodes_with ns = fold-Formula ℕ (node_sum ns)
