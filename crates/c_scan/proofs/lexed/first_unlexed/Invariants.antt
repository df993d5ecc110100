use Rattle.std.proofs.Common.{length, ◌-◌}
use Rattle.c_scan.proofs.Steps.{Onward}
use Rattle.c_scan.proofs.lexed.first_unlexed.Given as goal

abbrev pub invariant-more : goal.invariant-more
invariant-more l = Onward l.text l.at

abbrev pub decreases-more : goal.decreases-more
decreases-more l = length l.text - l.at
