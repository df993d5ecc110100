-- What a store of bytes on one page does.
use Rattle.std.specs.Prelude.{◌≡◌, ℕ, ◌≤◌, ◌==◌, Bool, true, false, if◌then◌else◌, List, length, count_by, None}
use Rattle.rtl_core.specs.Contents.{put_all, is_writable, first_fault}
use Rattle.page_pool.specs.Frames.{Frames, spare_of}
use Rattle.paged_space.specs.PageTable.{PageTable, contents_of}
use Rattle.paged_space.specs.Moves.{StandIn}
use Rattle.paged_space.specs.Follows.{Follows, shared_of}

-- all that is true after a store of bytes on one page
pub record IsPieceStored (t u : PageTable) (old new : Frames) (a : ℕ) (piece : List ℕ) (done : Bool) : Type 0 where
  pub contents : contents_of u new ≡ (if done then put_all (contents_of t old) a piece else contents_of t old)
  pub fault : done ≡ true → first_fault is_writable (contents_of t old) a (length piece) ≡ None
  pub kept : done ≡ false → (u ≡ t) × (new ≡ old)
  pub stands : StandIn u.frames new
  pub ready : shared_of u new ≤ spare_of new
  pub follows : Follows t u old new
  pub once : (n : ℕ) → count_by (λ f. f == n) u.frames ≤ 1
