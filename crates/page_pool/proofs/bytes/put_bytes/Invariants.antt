use Rattle.std.proofs.Common.{◌≡◌, ℕ, ◌+◌, ◌*◌, ◌<◌, get_or, length}
use Rattle.page_pool.specs.Frames.{IsBeside}
use Rattle.page_pool.proofs.bytes.put_bytes.Given as goal

abbrev pub invariant-loop-i : goal.invariant-loop-i
invariant-loop-i l = record {
  here : (i : ℕ) → i < l.i → get_or l.bytes (4096 * l.n + (l.at + i)) 0 ≡ get_or l.piece i 0;
  others : (p : ℕ) → IsBeside (4096 * l.n + l.at) (length l.piece) p → get_or l.bytes p 0 ≡ get_or l.fn.bytes p 0;
}
