-- Two spaces of one shape that share frames with each other alone.
use Rattle.std.specs.Prelude.{◌≡◌, ℕ, ◌+◌, ◌≤◌, ◌==◌, ◌&&◌, Bool, true, false, List, [], ◌∷◌, ◌++◌, length, count_by, slice_index, slice_index_or}
use Rattle.page_pool.specs.Frames.{Frames, holders_of, spare_of}
use Rattle.paged_space.specs.PageTable.{PageTable}
use Rattle.paged_space.specs.Moves.{one_if, StandIn}

-- how many writable pages have the same frame in both
unfoldable pub pairs : List Bool → List ℕ → List ℕ → ℕ
pairs [] fs gs = 0
pairs (w ∷ ws) [] gs = 0
pairs (w ∷ ws) (f ∷ fs) [] = 0
pairs (w ∷ ws) (f ∷ fs) (g ∷ gs) = one_if (w && (f == g)) + pairs ws fs gs

-- a writable page of the first with another holder has it at the same page of the second, and no third one
abbrev pub SharesHere : List Bool → List ℕ → List ℕ → Frames → Type 0
SharesHere ws fs gs s = (i : ℕ) → slice_index_or ws i false ≡ true → 2 ≤ holders_of s (slice_index fs i) → (slice_index gs i ≡ slice_index fs i) × (holders_of s (slice_index fs i) ≡ 2)

-- What two spaces keep that were twins once: they share frames with one another alone, page for page, and a frame is spare for each page
-- that may be written and that they share. So each store of either finds the spare frame that it needs.
pub record AreTwins (t u : PageTable) (s : Frames) : Type 0 where
  pub long : length u.frames ≡ length t.frames
  pub flags : length t.writes ≡ length t.frames
  pub writes : u.writes ≡ t.writes
  pub stand : StandIn (t.frames ++ u.frames) s
  pub first : SharesHere t.writes t.frames u.frames s
  pub second : SharesHere t.writes u.frames t.frames s
  pub room : pairs t.writes t.frames u.frames ≤ spare_of s

-- how many pages may be written
abbrev pub writable_pages : List Bool → ℕ
writable_pages ws = count_by (λ w. w) ws

-- no other space shares its writable pages, and each of these has a spare frame
pub record HasSpareTwin (t : PageTable) (s : Frames) : Type 0 where
  pub alone : (i : ℕ) → slice_index_or t.writes i false ≡ true → holders_of s (slice_index t.frames i) ≤ 1
  pub room : writable_pages t.writes ≤ spare_of s
