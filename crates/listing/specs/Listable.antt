-- What a list asks of a graph and its summaries.
use Rattle.std.specs.Prelude.{◌≡◌, ℕ, ◌<◌, true, List, [], ◌∷◌, length, map}
use Rattle.std.specs.List.{All}
use Rattle.points.specs.declared.graph.Graph.{Graph}
use Rattle.points.specs.declared.graph.JumpTable.{JumpTable}
use Rattle.points.specs.declared.graph.Summary.{Summary}
use Rattle.points.specs.Bodies.{Code}
use Rattle.points.specs.Graphs.{IsGraph}
use Rattle.listing.specs.Lists.{tables_at, shows_table}

-- exactly one of the tables is that of the jump at an address
pub record HasOneTable (tables : List JumpTable) (a : ℕ) : Type 0 where
  pub table : JumpTable
  pub only : tables_at tables a ≡ table ∷ []

-- a summary for each procedure, in their order; the places of each body are those of nodes; and one table for each computed plain
-- jump with nothing to come
pub record IsListable (g : Graph) (sums : List Summary) : Type 0 where
  pub summaries : map (λ s. s.entry) sums ≡ map (λ p. p.entry) g.procs
  pub bodies : All (λ p. All (λ k. k < length g.nodes) p.body) g.procs
  pub tables : All (λ n. shows_table n ≡ true → HasOneTable g.tables n.point.pc) g.nodes

-- the graph of a program, with a summary for each of its procedures, can be listed
abbrev pub GraphIsListable : Type 0
GraphIsListable = (code : Code) (roots : List ℕ) (g : Graph) (sums : List Summary) → IsGraph code roots g → map (λ s. s.entry) sums ≡ map (λ p. p.entry) g.procs → IsListable g sums
