use Rattle.std.proofs.Common.{◌≡◌, ℕ, ◌<◌, length, get_or}
use Rattle.page_pool.proofs.free_list.numbers.Given as goal

abbrev pub invariant-loop-n : goal.invariant-loop-n
invariant-loop-n l = record {
  long : length l.list.items ≡ l.end;
  each : (k : ℕ) → k < l.n → get_or l.list.items k 0 ≡ k;
}
