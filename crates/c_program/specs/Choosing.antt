-- What the choice among procedures does.
use Rattle.std.specs.Prelude.{◌≡◌, ℕ, ◌≤◌, List, length}
use Rattle.std.specs.List.{Contains}
use Rattle.std.specs.List.Sorted.{IsStrictlySortedBy}
use Rattle.std.specs.Ordering.{nat_cmp}
use Rattle.c_control.specs.Choice.{Tree, leaf_of, levels}
use Rattle.c_program.specs.Trees.{most_levels, tree_of}

-- a choice leads each of some procedures to itself, and nothing to another place
pub record ChoosesAmong (tree : Tree) (entries : List ℕ) : Type 0 where
  pub leaves : (x : ℕ) → Contains entries (leaf_of tree x)
  pub chosen : (x : ℕ) → Contains entries x → leaf_of tree x ≡ x
  pub few : levels tree ≤ most_levels

-- so do halves of halves, of at most 131,072 ascending procedures
abbrev pub HalvesChoose : Type 0
HalvesChoose = (entries : List ℕ) → 1 ≤ length entries → length entries ≤ 131072 → IsStrictlySortedBy nat_cmp entries → ChoosesAmong (tree_of entries) entries
