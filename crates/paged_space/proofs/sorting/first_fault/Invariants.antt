use Rattle.std.proofs.Common.{◌-◌}
use Rattle.paged_space.proofs.sorting.first_fault.Given as goal
use Rattle.paged_space.specs.Sorting.{Between}

abbrev pub invariant-loop-bounds : goal.invariant-loop-bounds
invariant-loop-bounds l = Between l.ranges l.bounds.low l.bounds.high

abbrev pub decreases-loop-bounds : goal.decreases-loop-bounds
decreases-loop-bounds l = l.bounds.high - l.bounds.low
