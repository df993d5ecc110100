use Rattle.std.proofs.Common.{ℕ, ◌+◌, ◌*◌, List, length}
use Rattle.std.specs.Prelude.{count_by, not}
use Rattle.params.specs.Leading.{IsOnTheWay}
use Rattle.params.proofs.search.Search.go_on.Given as goal

abbrev pub invariant-loop-place : goal.invariant-loop-place
invariant-loop-place l = (starts : List ℕ) → IsOnTheWay l.rows starts l.fn.self.marks l.fn.self.waiting → IsOnTheWay l.rows starts l.self.marks l.self.waiting

abbrev pub decreases-loop-place : goal.decreases-loop-place
decreases-loop-place l = 2 * count_by not l.self.marks + length l.self.waiting
