-- The program of a graph has the shape that is promised to who reads it.
use Rattle.std.specs.Prelude.{ℕ, List}
use Rattle.std.specs.List.{All, Contains}
use Rattle.rtl_core.specs.FirstMemory.{Part}
use Rattle.points.specs.declared.graph.Graph.{Graph}
use Rattle.points.specs.declared.graph.Summary.{Summary}
use Rattle.points.specs.Machine.{Setting}
use Rattle.c_lang.specs.declared.tree.Program.{Program}
use Rattle.c_control.specs.Plans.{Plan}
use Rattle.params.specs.ByEntry.{AreMoving}
use Rattle.c_program.specs.Planning.{IsDescribed, AreSummariesOf, graph_plan, graph_program}
use Rattle.c_shape.specs.Functions.{HasItsFunctions, HasItsCells, HasItsImage}
use Rattle.c_shape.specs.Performing.{IsPerforming}

-- a property of the program of a graph with its summaries, whatever its image
abbrev pub OfGraphs : (Plan → List ℕ → List Summary → List Part → Program → Type 0) → Type 0
OfGraphs P = (setting : Setting) (table : ℕ → List ℕ) (roots : List ℕ) (g : Graph) (sums : List Summary) (others : List ℕ) (parts : List Part) (entry : ℕ)
    → IsDescribed setting table roots g → AreSummariesOf setting table roots g sums → AreMoving setting.machine others → Contains roots entry
    → P (graph_plan setting table g.procs sums others) roots sums parts (graph_program setting table g sums others parts entry)

-- a function for each procedure, with its blocks, and no other
abbrev pub GraphHasItsFunctions : Type 0
GraphHasItsFunctions = OfGraphs (λ plan roots sums parts program. HasItsFunctions plan roots program)

-- with the cells of its summary
abbrev pub GraphHasItsCells : Type 0
GraphHasItsCells = OfGraphs (λ plan roots sums parts program. HasItsCells plan sums program)

-- the segments, the heap and the stack of the image
abbrev pub GraphHasItsImage : Type 0
GraphHasItsImage = OfGraphs (λ plan roots sums parts program. HasItsImage plan parts program)

-- each block of each function performs a step at a point of its procedure
abbrev pub AllPerform : Plan → List ℕ → Program → Type 0
AllPerform plan roots program = All (λ f. All (IsPerforming plan roots f.entry) f.blocks) program.functions

abbrev pub GraphPerforms : Type 0
GraphPerforms = OfGraphs (λ plan roots sums parts program. AllPerform plan roots program)

-- ---- all of it

pub record HasFullShape (plan : Plan) (roots : List ℕ) (sums : List Summary) (parts : List Part) (program : Program) : Type 0 where
  pub functions : HasItsFunctions plan roots program
  pub cells : HasItsCells plan sums program
  pub performs : AllPerform plan roots program
  pub image : HasItsImage plan parts program

abbrev pub GraphHasFullShape : Type 0
GraphHasFullShape = OfGraphs HasFullShape
