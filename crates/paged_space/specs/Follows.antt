-- How a space in its pool stands to an earlier one.
use Rattle.std.specs.Prelude.{◌≡◌, ℕ, ◌+◌, ◌&&◌, nat_le, Bool, List, [], ◌∷◌}
use Rattle.page_pool.specs.Frames.{Frames, holders_of}
use Rattle.paged_space.specs.PageTable.{PageTable}
use Rattle.paged_space.specs.Moves.{IsMoved, LeavesHolders, one_if}

-- how many pages that may be written have a frame with another holder
unfoldable pub shared_in : List Bool → List ℕ → Frames → ℕ
shared_in [] fs s = 0
shared_in (w ∷ ws) [] s = 0
shared_in (w ∷ ws) (f ∷ fs) s = one_if (w && nat_le 2 (holders_of s f)) + shared_in ws fs s

-- the same of a space
abbrev pub shared_of : PageTable → Frames → ℕ
shared_of t s = shared_in t.writes t.frames s

-- A space in its pool, some stores later: the same pages, of which some that may be written have frames of their own now; all other spaces
-- in the pool are as they were.
pub record Follows (t u : PageTable) (old new : Frames) : Type 0 where
  pub extents : u.extents ≡ t.extents
  pub writes : u.writes ≡ t.writes
  pub moved : IsMoved t.writes t.frames u.frames old new
  pub others : LeavesHolders t.frames u.frames old new
