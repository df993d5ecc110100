-- The choice among ascending procedures: halves of halves.
use Rattle.std.specs.Prelude.{ℕ, zero, suc, ◌/◌, nat_lt, if◌then◌else◌, List, length, take, drop, slice_index}
use Rattle.c_control.specs.Choice.{Tree, Leaf, Node}

-- the choice among some procedures, by so many conditions in one another at most
unfoldable pub tree_by : ℕ → List ℕ → Tree
tree_by zero entries = Leaf (slice_index entries 0)
tree_by (suc levels) entries =
    if nat_lt 1 (length entries)
    then Node (slice_index entries (length entries / 2)) (tree_by levels (take (length entries / 2) entries)) (tree_by levels (drop (length entries / 2) entries))
    else Leaf (slice_index entries 0)

-- 17 conditions tell 131,072 procedures apart
abbrev pub most_levels : ℕ
most_levels = 17

abbrev pub tree_of : List ℕ → Tree
tree_of entries = tree_by most_levels entries
