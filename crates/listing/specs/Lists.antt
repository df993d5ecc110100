-- The text of a list: a line for each procedure, and behind it one for each point of its body and each table of these.
use Rattle.std.specs.Prelude.{ℕ, ◌==◌, ◌&&◌, Bool, true, false, if◌then◌else◌, List, [], ◌∷◌, ◌++◌, length, map, codes, slice_get, option_to_list}
use Rattle.std.specs.List.{filter, flat_map, zip}
use Rattle.std.specs.Fmt.{decimal}
use Rattle.rtl_core.specs.declared.point.Point.{Point}
use Rattle.rtl_core.specs.declared.point.Slot.{Slot}
use Rattle.rtl_core.specs.declared.point.Slot.TheVariants.{Seq, To, Dyn, CallTo, CallDyn, Ret}
use Rattle.points.specs.declared.graph.Graph.{Graph}
use Rattle.points.specs.declared.graph.JumpTable.{JumpTable}
use Rattle.points.specs.declared.graph.Node.{Node}
use Rattle.points.specs.declared.graph.Proc.{Proc}
use Rattle.points.specs.declared.graph.Summary.{Summary}
use Rattle.points.specs.Flows.{is_computed}
use Rattle.c_text.specs.Words.{hex}

-- ---- lines

-- a word behind a blank
abbrev pub spaced : List ℕ → List ℕ
spaced word = 32 ∷ word

-- a line: a word, others behind it, and a line feed
abbrev pub line : List ℕ → List (List ℕ) → List ℕ
line first others = first ++ (flat_map spaced others ++ 10 ∷ [])

-- ---- procedures

-- a number behind a comma
abbrev pub behind_comma : ℕ → List ℕ
behind_comma c = 44 ∷ decimal c

-- the numbers of cells with commas between them, or a dash where there are none
abbrev pub cells : List ℕ → List ℕ
cells [] = codes "-"
cells (c ∷ cs) = decimal c ++ flat_map behind_comma cs

-- a procedure by its entry, with the cells that it may read or assign, and those that it may assign
abbrev pub proc_line : Proc → Summary → List ℕ
proc_line p s = line (codes "proc") (hex p.entry ∷ codes "refs" ∷ cells s.refs ∷ codes "mods" ∷ cells s.mods ∷ [])

-- ---- points

-- the jump that is still to come: a letter, and its addresses
abbrev pub slot_words : Slot → List (List ℕ)
slot_words Seq = codes "S" ∷ []
slot_words (To target) = codes "T" ∷ hex target ∷ []
slot_words (Dyn from) = codes "D" ∷ hex from ∷ []
slot_words (CallTo target back) = codes "C" ∷ hex target ∷ hex back ∷ []
slot_words (CallDyn back) = codes "E" ∷ hex back ∷ []
slot_words Ret = codes "R" ∷ []

abbrev pub point_line : Point → List ℕ
point_line p = line (codes "point") (hex p.pc ∷ slot_words p.slot)

-- ---- tables

-- a table by the address of its jump, with how many targets it has, and these
abbrev pub table_line : JumpTable → List ℕ
table_line t = line (codes "table") (hex t.at ∷ decimal (length t.targets) ∷ map hex t.targets)

-- the tables of the jump at an address
abbrev pub tables_at : List JumpTable → ℕ → List JumpTable
tables_at tables a = filter (λ t. t.at == a) tables

-- nothing is still to come
abbrev pub is_sequential : Slot → Bool
is_sequential Seq = true
is_sequential _ = false

-- a computed plain jump stands at the node, with nothing to come there
abbrev pub shows_table : Node → Bool
shows_table n = is_sequential n.point.slot && is_computed n.block

-- the lines of the table of a node, where it shows one
abbrev pub node_tables : List JumpTable → Node → List ℕ
node_tables tables n = if shows_table n then flat_map table_line (tables_at tables n.point.pc) else []

-- ---- the list

abbrev pub node_text : List JumpTable → Node → List ℕ
node_text tables n = point_line n.point ++ node_tables tables n

-- the lines of the node at a place
abbrev pub place_text : Graph → ℕ → List ℕ
place_text g k = flat_map (node_text g.tables) (option_to_list (slice_get g.nodes k))

abbrev pub proc_text : Graph → Proc → Summary → List ℕ
proc_text g p s = proc_line p s ++ flat_map (place_text g) p.body

abbrev pub list_text : Graph → List Summary → List ℕ
list_text g sums = flat_map (λ ps. proc_text g ps.0 ps.1) (zip g.procs sums)
