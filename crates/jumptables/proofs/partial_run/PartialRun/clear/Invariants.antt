use Rattle.std.proofs.Common.{◌≡◌, ◌<◌, ℕ, false, length, get_or}
use Rattle.jumptables.proofs.partial_run.PartialRun.clear.Given as goal

abbrev pub invariant-loop-k : goal.invariant-loop-k
invariant-loop-k l = record {
  count : length l.self.cells.values ≡ length l.fn.self.cells.values;
  flags : length l.self.known ≡ length l.fn.self.known;
  zeros : (j : ℕ) → j < l.k → get_or l.self.cells.values j 0 ≡ 0;
  unset : (j : ℕ) → j < l.k → get_or l.self.known j false ≡ false;
}
