use Rattle.std.proofs.Common.{ℕ, ◌<◌, get_or}
use Rattle.page_pool.specs.Frames.{holders_of}
use Rattle.paged_space.proofs.sharing.any_full.Given as goal

abbrev pub invariant-loop-frame : goal.invariant-loop-frame
invariant-loop-frame l = (k : ℕ) → k < l.frame-index → holders_of l.pool (get_or l.frames k 0) < 65535
