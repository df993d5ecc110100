-- What the summaries of a graph are listed from.
use Rattle.std.specs.Prelude.{◌≡◌, ℕ, ◌+◌, Bool, List, [], ◌∷◌, length, map, Option}
use Rattle.std.specs.List.{range_with_len}
use Rattle.std.specs.List.Sorted.{IsStrictlySortedBy}
use Rattle.std.specs.Ordering.{nat_cmp}
use Rattle.rtl_core.specs.declared.conv.Conv.{Conv}
use Rattle.rtl_core.specs.declared.machine.Machine.{Machine}
use Rattle.points.specs.declared.graph.Graph.{Graph}
use Rattle.points.specs.declared.graph.Proc.{Proc}
use Rattle.points.specs.declared.graph.Summary.{Summary}
use Rattle.params.specs.declared.parts.Part.{Part}
use Rattle.params.specs.Cells.{marked_cells, moving_cells}
use Rattle.params.specs.Leading.{AreRows, AreColumns}
use Rattle.params.specs.Parts.{proc_part, has_no_targets, openers as all_openers}

-- the callers of each procedure, and the procedures that may enter any
pub record AreCalls (m : Machine) (conv : Conv) (g : Graph) (callers : List (List ℕ)) (openers : List ℕ) : Type 0 where
  pub callers_are : IsStrictlySortedBy nat_cmp (map (λ p. p.entry) g.procs) → AreRows (map (λ p. p.entry) g.procs) (map (proc_part m conv Part.Calls g.nodes) g.procs) callers
  pub openers_are : openers ≡ all_openers m (has_no_targets g.tables) g

-- a column for each cell, by the procedures that have it in this part
pub record AreCellColumns (m : Machine) (conv : Conv) (g : Graph) (part : Part) (callers : List (List ℕ)) (openers : List ℕ) (columns : List (List Bool)) : Type 0 where
  pub users : List (List ℕ)
  pub users_are : IsStrictlySortedBy nat_cmp (range_with_len 0 (length m.widths)) → AreRows (range_with_len 0 (length m.widths)) (map (proc_part m conv part g.nodes) g.procs) users
  pub count : length users ≡ length m.widths
  pub columns_are : AreColumns callers openers users columns

-- the summary of the procedure at a place
abbrev pub summary_at : List (List Bool) → List (List Bool) → Option ℕ → ℕ → Proc → Summary
summary_at reads writes zero place p = record { entry = p.entry; refs = marked_cells reads zero place; mods = marked_cells writes zero place }

-- the summaries of procedures from a place on
abbrev pub summaries_at : List (List Bool) → List (List Bool) → Option ℕ → ℕ → List Proc → List Summary
summaries_at reads writes zero place [] = []
summaries_at reads writes zero place (p ∷ ps) = summary_at reads writes zero place p ∷ summaries_at reads writes zero (place + 1) ps

-- the summary of a procedure that has all cells but the zero cell
abbrev pub whole_summary : ℕ → Option ℕ → Proc → Summary
whole_summary count zero p = record { entry = p.entry; refs = moving_cells count zero; mods = moving_cells count zero }
