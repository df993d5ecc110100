-- What is listed of the nodes of a body: the procedures that it calls, and the cells that it names or assigns.
use Rattle.std.specs.Prelude.{ℕ, ◌==◌, ◌&&◌, ◌||◌, Bool, true, false, not, is_some, if◌then◌else◌, List, [], ◌∷◌, ◌++◌, length, filter, Option, Some, None, slice_get}
use Rattle.std.specs.List.{flat_map, list_any, range_with_len}
use Rattle.rtl_core.specs.declared.conv.Conv.{Conv}
use Rattle.rtl_core.specs.declared.machine.Machine.{Machine}
use Rattle.rtl_core.specs.declared.point.Point.{Point}
use Rattle.rtl_core.specs.declared.point.Slot.{Slot}
use Rattle.rtl_core.specs.declared.point.Slot.TheVariants.{Seq, Dyn, CallTo, CallDyn}
use Rattle.rtl_core.specs.declared.transfer.Transfer.{Transfer}
use Rattle.rtl_core.specs.SoundTerms.{is_jump, is_annul}
use Rattle.points.specs.declared.block.Block.{Block}
use Rattle.points.specs.declared.graph.Graph.{Graph}
use Rattle.points.specs.declared.graph.JumpTable.{JumpTable}
use Rattle.points.specs.declared.graph.Node.{Node}
use Rattle.points.specs.declared.graph.Proc.{Proc}
use Rattle.points.specs.Courses.{halts, pending}
use Rattle.points.specs.Summaries.{block_names, block_assigns, cells_in_row}
use Rattle.params.specs.declared.parts.Part.{Part}

-- ---- the jumps that arrive

-- where nothing is to come, transfers can jump so that the jump arrives at once: without delay, or where the slot is annulled
abbrev pub can_arrive : Option ℕ → List Transfer → Bool
can_arrive delay ts = not (halts ts) && (list_any (λ t. is_jump t.act) ts && (not (is_some delay) || list_any (λ t. is_annul t.act) ts))

-- the jump that the step at a point can make arrive at once: Seq for none
abbrev pub jump_from : Option ℕ → ℕ → Slot → Block → Slot
jump_from delay pc Seq (Block.Inst inst kind) = if can_arrive delay inst.transfers then pending pc kind else Seq
jump_from delay pc _ _ = Seq

abbrev pub jump_at_once : Machine → Point → Block → Slot
jump_at_once m p block = jump_from m.delay p.pc p.slot block

-- the jump that is to come at a point, and the one that its step can make arrive at once
abbrev pub slots_at : Machine → Node → List Slot
slots_at m node = node.point.slot ∷ jump_at_once m node.point node.block ∷ []

-- the procedure that a call with a constant target enters
abbrev pub entered_by : Slot → List ℕ
entered_by (CallTo t back) = t ∷ []
entered_by _ = []

-- a jump may enter any procedure: a computed call, or a computed plain jump without targets
abbrev pub opens_by : (ℕ → Bool) → Slot → Bool
opens_by empty (CallDyn back) = true
opens_by empty (Dyn a) = empty a
opens_by empty _ = false

-- ---- tables without targets

abbrev pub is_empty : List ℕ → Bool
is_empty [] = true
is_empty (x ∷ xs) = false

-- the table at an address is there and has no targets
abbrev pub has_no_targets : List JumpTable → ℕ → Bool
has_no_targets tables a = list_any (λ t. (a == t.at) && is_empty t.targets) tables

-- ---- parts

-- what is listed of a node
abbrev pub node_part : Machine → Conv → Part → Node → List ℕ
node_part m conv Part.Calls node = flat_map entered_by (slots_at m node)
node_part m conv Part.Names node = block_names m conv node.block
node_part m conv Part.Assigns node = block_assigns m conv node.block

-- the same of the node that may stand at a place
abbrev pub part_if_any : Machine → Conv → Part → Option Node → List ℕ
part_if_any m conv part None = []
part_if_any m conv part (Some node) = node_part m conv part node

abbrev pub place_part : Machine → Conv → Part → List Node → ℕ → List ℕ
place_part m conv part nodes k = part_if_any m conv part (slice_get nodes k)

-- the conventions name this procedure as one that needs all cells
abbrev pub is_whole : Conv → ℕ → Bool
is_whole conv entry = list_any (λ w. w == entry) conv.wholes

-- what is listed of a procedure besides: all cells, where the conventions say so
abbrev pub whole_part : Machine → Conv → Part → ℕ → List ℕ
whole_part m conv Part.Names entry = if is_whole conv entry then cells_in_row 0 (length m.widths) else []
whole_part m conv _ entry = []

-- what is listed of a procedure
abbrev pub proc_part : Machine → Conv → Part → List Node → Proc → List ℕ
proc_part m conv part nodes p = flat_map (place_part m conv part nodes) p.body ++ whole_part m conv part p.entry

-- ---- procedures that may enter any

abbrev pub opens_if_any : Machine → (ℕ → Bool) → Option Node → Bool
opens_if_any m empty None = false
opens_if_any m empty (Some node) = list_any (opens_by empty) (slots_at m node)

abbrev pub place_opens : Machine → (ℕ → Bool) → List Node → ℕ → Bool
place_opens m empty nodes k = opens_if_any m empty (slice_get nodes k)

abbrev pub proc_opens : Machine → (ℕ → Bool) → List Node → Proc → Bool
proc_opens m empty nodes p = list_any (place_opens m empty nodes) p.body

abbrev pub proc_opens_if_any : Machine → (ℕ → Bool) → List Node → Option Proc → Bool
proc_opens_if_any m empty nodes None = false
proc_opens_if_any m empty nodes (Some p) = proc_opens m empty nodes p

-- at this place stands a procedure that may enter any
abbrev pub is_opener : Machine → (ℕ → Bool) → Graph → ℕ → Bool
is_opener m empty g i = proc_opens_if_any m empty g.nodes (slice_get g.procs i)

-- the places of the procedures that may enter any
abbrev pub openers : Machine → (ℕ → Bool) → Graph → List ℕ
openers m empty g = filter (is_opener m empty g) (range_with_len 0 (length g.procs))
