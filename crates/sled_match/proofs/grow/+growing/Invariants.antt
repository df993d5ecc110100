use Rattle.std.proofs.Common.{◌≡◌, ℕ, suc, ◌+◌, ◌*◌, ◌<◌, length, get_or, [], take, sum_by}
use Rattle.sled_match.specs.Pruned.{allowed_in, IsTreeOf}
use Rattle.sled_match.specs.TreeSizes.{AreAdded}
use Rattle.sled_match.proofs.grow.+growing.Given as goal

abbrev pub decreases-grow : goal.decreases-grow
decreases-grow l = 2 * l.levels

abbrev pub decreases-grow_inner : goal.decreases-grow_inner
decreases-grow_inner l = 2 * l.below + 1

abbrev pub invariant-grow_inner-loop-list : goal.invariant-grow_inner-loop-list
invariant-grow_inner-loop-list l =
    AreAdded l.below l.list-index (sum_by length (take l.list-index l.list-items)) l.initial.nodes l.nodes
    × ((length l.children ≡ l.list-index)
    × ((j : ℕ) → j < l.list-index → IsTreeOf (suc l.below) (allowed_in l.table.rows) l.nodes (get_or l.children j 0) (get_or l.list-items j [])))
