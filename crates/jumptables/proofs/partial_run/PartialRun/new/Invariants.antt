use Rattle.std.proofs.Common.{◌≡◌, length}
use Rattle.jumptables.proofs.partial_run.PartialRun.new.Given as goal

abbrev pub invariant-loop-k : goal.invariant-loop-k
invariant-loop-k l = record { count : length l.values ≡ l.k; flags : length l.known ≡ l.k }
