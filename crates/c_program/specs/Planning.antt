-- The plan of a graph, and when its program is the text of that plan.
use Rattle.std.specs.Prelude.{ℕ, ◌^◌, ◌<◌, ◌≤◌, List, length, map}
use Rattle.std.specs.List.{Contains}
use Rattle.rtl_core.specs.FirstMemory.{Part}
use Rattle.rtl_core.specs.SoundConv.{AreSoundTogether}
use Rattle.points.specs.Bundles.{LieInMemory}
use Rattle.points.specs.declared.graph.Graph.{Graph}
use Rattle.points.specs.declared.graph.Proc.{Proc}
use Rattle.points.specs.declared.graph.Summary.{Summary}
use Rattle.points.specs.Bodies.{code_of}
use Rattle.points.specs.Control.{Flow}
use Rattle.points.specs.Graphs.{IsGraph}
use Rattle.points.specs.Machine.{Setting}
use Rattle.points.specs.Summaries.{AreSummaries, AreWholeSummaries}
use Rattle.c_lang.specs.declared.tree.Program.{Program}
use Rattle.c_lang.specs.State.{has}
use Rattle.c_control.specs.Plans.{Plan}
use Rattle.c_control.specs.Programs.{IsPlanned, IsSame, segment_of}
use Rattle.params.specs.ByEntry.{AreMoving, plan_of}
use Rattle.params.specs.SummaryLaws.{summarized}
use Rattle.c_program.specs.Trees.{tree_of}
use Rattle.c_program.specs.Whole.{program_of}

-- the entries of procedures
abbrev pub entries : List Proc → List ℕ
entries procs = map (λ p. p.entry) procs

-- what control asks of the program of a graph
abbrev pub flow_of : Setting → (ℕ → List ℕ) → List Proc → Flow
flow_of setting table procs = record { setting = setting; is_procedure = λ p. has (entries procs) p; table = table }

-- the plan of a graph with summaries; all cells that move where no procedure is
abbrev pub graph_plan : Setting → (ℕ → List ℕ) → List Proc → List Summary → List ℕ → Plan
graph_plan setting table procs sums others = plan_of (flow_of setting table procs) sums others (tree_of (entries procs))

-- what is known of the program of a graph beside its data: the descriptions and the bytes that no store changes, the tables of its
-- computed plain jumps, where its procedures begin for other reasons than a call, all cells that move, and the parts of its image
pub record Told : Type 0 where
  pub setting : Setting
  pub table : ℕ → List ℕ
  pub roots : List ℕ
  pub others : List ℕ
  pub parts : List Part

-- the graph of a sound program with at most 131,072 procedures, over addresses below 2^32
pub record IsDescribed (setting : Setting) (table : ℕ → List ℕ) (roots : List ℕ) (g : Graph) : Type 0 where
  pub sound : AreSoundTogether setting.encodings setting.machine setting.conv
  pub lie : LieInMemory setting.frozen
  pub graph : IsGraph (code_of setting table) roots g
  pub roots_small : (p : ℕ) → Contains roots p → p < 2 ^ 32
  pub tables_small : (a t : ℕ) → Contains (table a) t → t < 2 ^ 32
  pub few : length g.procs ≤ 131072

-- the least summaries of the procedures, or those with all cells
pub data AreSummariesOf (setting : Setting) (table : ℕ → List ℕ) (roots : List ℕ) (g : Graph) (sums : List Summary) : Type 0 where
  least : AreSummaries (summarized setting table roots) g sums → AreSummariesOf setting table roots g sums
  whole : AreWholeSummaries setting.machine g sums → AreSummariesOf setting table roots g sums

-- the program of a graph with summaries, for an image of these parts with this entry
abbrev pub graph_program : Setting → (ℕ → List ℕ) → Graph → List Summary → List ℕ → List Part → ℕ → Program
graph_program setting table g sums others parts entry =
    program_of (graph_plan setting table g.procs sums others) setting.machine setting.conv g.nodes g.procs (map segment_of parts) entry

-- it is the text of its plan
abbrev pub GraphIsPlanned : Type 0
GraphIsPlanned = (setting : Setting) (table : ℕ → List ℕ) (roots : List ℕ) (g : Graph) (sums : List Summary) (others : List ℕ) (parts : List Part) (entry : ℕ)
    → IsDescribed setting table roots g → AreSummariesOf setting table roots g sums → AreMoving setting.machine others → Contains roots entry
    → IsPlanned (graph_plan setting table g.procs sums others) roots parts entry (graph_program setting table g sums others parts entry)

-- and so the same as the machine
abbrev pub GraphIsSame : Type 0
GraphIsSame = (setting : Setting) (table : ℕ → List ℕ) (roots : List ℕ) (g : Graph) (sums : List Summary) (others : List ℕ) (parts : List Part) (entry : ℕ)
    → IsDescribed setting table roots g → AreSummariesOf setting table roots g sums → AreMoving setting.machine others → Contains roots entry
    → IsSame (graph_program setting table g sums others parts entry) (flow_of setting table g.procs) parts entry
