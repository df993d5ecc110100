-- What `build` answers.
use Rattle.std.specs.Prelude.{◌≡◌, ℕ, ◌+◌, ◌<◌, ◌==◌, ◌⊎◌, if◌then◌else◌, List, [], ◌∷◌, length, None, Some}
use Rattle.std.specs.List.{filter, sum_by}
use Rattle.page_pool.specs.Frames.{Frames, spare_of}
use Rattle.paged_space.specs.declared.range.Range.{Range}
use Rattle.paged_space.specs.declared.fault.SpaceFault.{SpaceFault}
use Rattle.paged_space.specs.declared.fault.SpaceFault.TheVariants.{NoFrames, NoMemory}
use Rattle.paged_space.specs.Ranges.{IsMapOf, memory_of}
use Rattle.paged_space.specs.Faults.{ranges_fault}
use Rattle.paged_space.specs.LaidOut.{AreFresh, pages_in}
use Rattle.paged_space.specs.PageTable.{PageTable, contents_of}
use Rattle.paged_space.specs.Moves.{StandIn}
use Rattle.paged_space.specs.Follows.{shared_of}
use Rattle.paged_space.specs.Twins.{writable_pages}
use Rattle.paged_space.specs.Together.{KeepMaps, StandTogether}

-- how many pages a range touches
abbrev pub touched : Range → ℕ
touched r = if r.len == 0 then 0 else pages_in r

-- the pages that ranges touch, counted for each range
abbrev pub frames_of : List Range → ℕ
frames_of rs = sum_by touched rs

-- The space of ranges: it has their map, on as many frames as they touch pages, none of which had a holder before. Spaces that stood
-- together in the pool still do, together with it, and keep their maps.
pub record IsBuiltFrom (rs : List Range) (t : PageTable) (old new : Frames) : Type 0 where
  pub clear : ranges_fault [] rs ≡ None
  pub contents : contents_of t new ≡ memory_of rs
  pub map : IsMapOf rs (contents_of t new)
  pub fresh : AreFresh t.frames old new
  pub pages : length t.frames ≡ frames_of rs
  pub spare : spare_of new + frames_of rs ≡ spare_of old
  pub writable : writable_pages t.writes ≡ frames_of (filter (λ r. r.write) rs)
  pub stands : StandIn t.frames new
  pub unshared : shared_of t new ≡ 0
  pub together : (ts : List PageTable) → StandTogether ts old → StandTogether (t ∷ ts) new × KeepMaps ts old new

-- why ranges make no space: memory ran out, or the first of them that is at fault, or too few frames are spare for ranges without a fault
abbrev pub IsRefused : List Range → ℕ → SpaceFault → Type 0
IsRefused rs spare f = (f ≡ NoMemory) ⊎ ((ranges_fault [] rs ≡ Some f) ⊎ ((f ≡ NoFrames) × (ranges_fault [] rs ≡ None) × (spare < frames_of rs)))
