use Rattle.std.proofs.Common.{[], arith}
use Rattle.sled_rules.proofs.counting.has_many.Goals as goal

pub overflow_add-count : goal.overflow_add-count
overflow_add-count c = omega (arith, c.loop-items.invariant [], c.sequence_count.ensures [])
