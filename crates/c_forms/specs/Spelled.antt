-- The program of a graph has a C text.
use Rattle.std.specs.Prelude.{ℕ, List, map}
use Rattle.std.specs.List.{Contains}
use Rattle.rtl_core.specs.FirstMemory.{Part}
use Rattle.points.specs.declared.graph.Graph.{Graph}
use Rattle.points.specs.declared.graph.Summary.{Summary}
use Rattle.points.specs.Machine.{Setting}
use Rattle.c_lang.specs.Spellable.{HasSpelling, SegmentsFit}
use Rattle.c_control.specs.Programs.{segment_of}
use Rattle.params.specs.ByEntry.{AreMoving}
use Rattle.c_program.specs.Planning.{AreSummariesOf, IsDescribed, graph_program}

-- where the numbers of its segments fit
abbrev pub GraphIsSpelled : Type 0
GraphIsSpelled = (setting : Setting) (table : ℕ → List ℕ) (roots : List ℕ) (g : Graph) (sums : List Summary) (others : List ℕ) (parts : List Part) (entry : ℕ)
    → IsDescribed setting table roots g → AreSummariesOf setting table roots g sums → AreMoving setting.machine others → Contains roots entry
    → SegmentsFit (map segment_of parts) → HasSpelling (graph_program setting table g sums others parts entry)
