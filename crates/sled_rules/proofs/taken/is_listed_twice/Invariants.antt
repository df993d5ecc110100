use Rattle.std.proofs.Common.{◌≡◌, length}
use Rattle.sled_rules.specs.Faults.{some_listed_twice}
use Rattle.sled_rules.proofs.taken.is_listed_twice.Given as goal

abbrev pub decreases-loop-op : goal.decreases-loop-op
decreases-loop-op l = length l.rest

abbrev pub invariant-loop-op : goal.invariant-loop-op
invariant-loop-op l = some_listed_twice l.rest ≡ some_listed_twice l.ops
