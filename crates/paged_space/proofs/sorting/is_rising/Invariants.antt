use Rattle.std.proofs.Common.{◌≡◌, drop}
use Rattle.paged_space.proofs.sorting.is_rising.Given as goal
use Rattle.paged_space.specs.Sorting.{rises, values}

abbrev pub invariant-loop-range : goal.invariant-loop-range
invariant-loop-range l = rises l.low (drop l.range-index (values l.order)) ≡ rises 0 (values l.order)
