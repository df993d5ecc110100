use Rattle.std.proofs.Common.{◌≡◌, ◌+◌, drop}
use Rattle.paged_space.specs.Follows.{shared_in}
use Rattle.paged_space.proofs.sharing.count_shared.Given as goal

abbrev pub invariant-loop-k : goal.invariant-loop-k
invariant-loop-k l = l.count + shared_in (drop l.k l.writes) (drop l.k l.frames) l.pool ≡ shared_in l.writes l.frames l.pool
