use Rattle.std.proofs.Common.{◌≡◌, ◌++◌, drop}
use Rattle.paged_space.proofs.sorting.gather.Given as goal
use Rattle.paged_space.specs.Sorting.{nonempty, values}

abbrev pub invariant-loop-range : goal.invariant-loop-range
invariant-loop-range l = values l.some.items ++ nonempty (drop l.range-index l.ranges) ≡ nonempty l.ranges
