use Rattle.std.proofs.Common.{◌≡◌, ℕ, ◌+◌, length}
use Rattle.std.specs.Prelude.{◌==◌, count_by, vec_len}
use Rattle.page_pool.specs.Frames.{holders_of}
use Rattle.paged_space.specs.Moves.{StandIn}
use Rattle.paged_space.proofs.sharing.give_frames.Given as goal

abbrev pub invariant-loop-frame : goal.invariant-loop-frame
invariant-loop-frame l = record {
  stand : StandIn l.frames.items l.pool;
  long : length l.pool.holders ≡ length l.fn.pool.holders;
  bytes : l.pool.bytes ≡ l.fn.pool.bytes;
  given : (n : ℕ) → holders_of l.pool n + count_by (λ f. f == n) l.fn.frames.items ≡ holders_of l.fn.pool n + count_by (λ f. f == n) l.frames.items;
}

abbrev pub decreases-loop-frame : goal.decreases-loop-frame
decreases-loop-frame l = vec_len l.frames
