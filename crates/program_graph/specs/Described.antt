-- The graph of a described program, whatever function gives the tables of its computed plain jumps.
use Rattle.std.specs.Prelude.{◌≡◌, ℕ, ◌+◌, List}
use Rattle.points.specs.declared.graph.Graph.{Graph}
use Rattle.points.specs.Bodies.{code_of, roots_of}
use Rattle.points.specs.Flows.{HasTables}
use Rattle.points.specs.Graphs.{IsGraph}
use Rattle.points.specs.Machine.{Setting}
use Rattle.discover.specs.Places.{IsTooLarge}
use Rattle.discover.specs.declared.discovery.DiscoverFault.{DiscoverFault}
use Rattle.discover.specs.declared.discovery.DiscoverFault.TheVariants.{TooLarge, NoMemory}

-- the graph of the program with this entry and these function symbols
pub record IsGraphOf (setting : Setting) (entry : ℕ) (symbols : List ℕ) (g : Graph) : Type 0 where
  pub each : (table : ℕ → List ℕ) → HasTables setting table → IsGraph (code_of setting table) (roots_of setting entry symbols) g

-- the most points that are built
abbrev pub most_points : ℕ
most_points = 131072

-- the bodies of its procedures together have more points, a point counted once for each body
pub record IsOver (setting : Setting) (entry : ℕ) (symbols : List ℕ) : Type 0 where
  pub each : (table : ℕ → List ℕ) → HasTables setting table → IsTooLarge (code_of setting table) (roots_of setting entry symbols) most_points

-- why there is no graph
abbrev pub IsFault : Setting → ℕ → List ℕ → DiscoverFault → Type 0
IsFault setting entry symbols (TooLarge points) = (points ≡ most_points + 1) × IsOver setting entry symbols
IsFault setting entry symbols NoMemory = Unit {0}
