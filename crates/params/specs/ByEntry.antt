-- Summaries looked up by the entries of procedures, as a translation asks for them.
use Rattle.std.specs.Prelude.{◌==◌, ℕ, if◌then◌else◌, List, [], ◌∷◌}
use Rattle.std.specs.List.Sorted.{IsStrictlySortedBy}
use Rattle.std.specs.Ordering.{nat_cmp}
use Rattle.rtl_core.specs.declared.machine.Machine.{Machine}
use Rattle.rtl_core.specs.SoundConv.{AreSoundTogether}
use Rattle.points.specs.Bundles.{LieInMemory}
use Rattle.points.specs.declared.graph.Graph.{Graph}
use Rattle.points.specs.declared.graph.Summary.{Summary}
use Rattle.points.specs.Bodies.{code_of}
use Rattle.points.specs.Control.{Flow}
use Rattle.points.specs.Exactly.{IsExactly}
use Rattle.points.specs.Graphs.{IsGraph}
use Rattle.points.specs.Summaries.{IsMoving, AreSummaries, AreWholeSummaries}
use Rattle.c_control.specs.Choice.{Tree}
use Rattle.c_control.specs.Plans.{Plan}
use Rattle.c_control.specs.Programs.{AreClosed}
use Rattle.params.specs.SummaryLaws.{summarized}

-- the cells that the procedure at an entry may read or assign; others where no summary has that entry
abbrev pub refs_of : List Summary → List ℕ → ℕ → List ℕ
refs_of [] others p = others
refs_of (s ∷ ss) others p = if s.entry == p then s.refs else refs_of ss others p

-- those that it may assign
abbrev pub mods_of : List Summary → List ℕ → ℕ → List ℕ
mods_of [] others p = others
mods_of (s ∷ ss) others p = if s.entry == p then s.mods else mods_of ss others p

-- any cell but the zero cell, ascending
pub record AreMoving (m : Machine) (cells : List ℕ) : Type 0 where
  pub rise : IsStrictlySortedBy nat_cmp cells
  pub exactly : IsExactly (IsMoving m) cells

-- the cells of a plan by summaries, and all that move where no procedure is
abbrev pub plan_of : Flow → List Summary → List ℕ → Tree → Plan
plan_of flow summaries others tree = record { flow = flow; refs = refs_of summaries others; mods = mods_of summaries others; tree = tree }

-- the summaries of a graph hold together, as a translation asks
abbrev pub summaries_are_closed : Type 0
summaries_are_closed = (flow : Flow) (roots : List ℕ) (g : Graph) (summaries : List Summary) (others : List ℕ) (tree : Tree)
    → AreSoundTogether flow.setting.encodings flow.setting.machine flow.setting.conv → LieInMemory flow.setting.frozen
    → IsGraph (code_of flow.setting flow.table) roots g → AreSummaries (summarized flow.setting flow.table roots) g summaries → AreMoving flow.setting.machine others
    → AreClosed (plan_of flow summaries others tree) roots

-- so do those of whole registers
abbrev pub whole_summaries_are_closed : Type 0
whole_summaries_are_closed = (flow : Flow) (roots : List ℕ) (g : Graph) (summaries : List Summary) (others : List ℕ) (tree : Tree)
    → AreSoundTogether flow.setting.encodings flow.setting.machine flow.setting.conv → LieInMemory flow.setting.frozen
    → AreWholeSummaries flow.setting.machine g summaries → AreMoving flow.setting.machine others → AreClosed (plan_of flow summaries others tree) roots
