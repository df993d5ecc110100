-- When a C program is a translation of a described program.
use Rattle.std.specs.Prelude.{◌≡◌, ℕ, List, map}
use Rattle.std.specs.List.{All}
use Rattle.rtl_core.specs.FirstMemory.{Part}
use Rattle.points.specs.declared.graph.Graph.{Graph}
use Rattle.points.specs.declared.graph.Summary.{Summary}
use Rattle.points.specs.Bodies.{roots_of}
use Rattle.points.specs.Flows.{IsFlow}
use Rattle.points.specs.Machine.{Setting}
use Rattle.points.specs.Summaries.{AreSummaries, IsSummary}
use Rattle.c_lang.specs.declared.tree.CSeg.{CSeg}
use Rattle.c_lang.specs.declared.tree.Program.{Program}
use Rattle.c_lang.specs.Spellable.{HasSpelling}
use Rattle.c_text.specs.Spells.{Spells}
use Rattle.c_control.specs.Plans.{Plan}
use Rattle.c_control.specs.Programs.{IsSame}
use Rattle.params.specs.SummaryLaws.{summarized}
use Rattle.c_program.specs.Planning.{Told, graph_plan}
use Rattle.c_shape.specs.Laws.{HasFullShape}
use Rattle.c_static.specs.Laws.{KeepsFive}

-- a segment as a part of the first memory
abbrev pub part_of : CSeg → Part
part_of s = record { base = s.base; writes = s.write; len = s.len; bytes = s.bytes }

abbrev pub parts_of : List CSeg → List Part
parts_of segments = map part_of segments

-- the program has the shape that is promised to a reader, with the cells of the least summaries of a graph
pub record IsShaped (told : Told) (g : Graph) (p : Program) : Type 0 where
  pub sums : List Summary
  pub are : AreSummaries (summarized told.setting told.table told.roots) g sums
  pub shape : HasFullShape (graph_plan told.setting told.table g.procs sums told.others) told.roots sums told.parts p

-- a translation of the program with this entry and these function symbols, over an image of these parts: it is the same as the
-- machine with all of control, it has the shape that is promised to a reader, with exactly the cells that its procedures read or assign, it can
-- be spelled and keeps the static rules, and no other program has a text of it
pub record IsTranslation (setting : Setting) (entry : ℕ) (symbols : List ℕ) (parts : List Part) (p : Program) : Type 0 where
  -- what the text is made from: its flow is what control asks of the program, its tables and its procedures
  pub plan : Plan
  pub is : IsFlow setting entry symbols plan.flow
  pub same : IsSame p plan.flow parts entry
  -- the cells of each procedure
  pub sums : List Summary
  pub cells : All (IsSummary (summarized setting plan.flow.table (roots_of setting entry symbols))) sums
  pub shape : HasFullShape plan (roots_of setting entry symbols) sums parts p
  pub spelled : HasSpelling p
  pub rules : KeepsFive p
  pub only : (text : List ℕ) (other : Program) → Spells text p → Spells text other → other ≡ p
