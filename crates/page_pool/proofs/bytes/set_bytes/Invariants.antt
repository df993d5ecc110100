use Rattle.std.proofs.Common.{◌≡◌, ℕ, ◌+◌, ◌*◌, ◌<◌, get_or}
use Rattle.page_pool.specs.Frames.{IsBeside, placed}
use Rattle.page_pool.proofs.bytes.set_bytes.Given as goal

abbrev pub invariant-loop-k : goal.invariant-loop-k
invariant-loop-k l = record {
  filled : (k : ℕ) → k < l.k → get_or l.bytes (4096 * l.n + k) 0 ≡ placed l.at l.piece k;
  others : (j : ℕ) → IsBeside (4096 * l.n) 4096 j → get_or l.bytes j 0 ≡ get_or l.fn.bytes j 0;
}
