-- A space as extents over a list of pages, and what it maps.
use Rattle.std.specs.Prelude.{◌≡◌, ℕ, ◌+◌, ◌-◌, ◌/◌, ◌%◌, ◌^◌, ◌≤◌, ◌<◌, ◌==◌, ◌&&◌, nat_le, nat_lt, Bool, true, false, if◌then◌else◌, List, [], ◌∷◌, length, count_by, slice_index_or, Option, Some, None, option_map}
use Rattle.std.specs.List.{slice_get}
use Rattle.std.specs.Option.{option_and_then}
use Rattle.rtl_core.specs.Contents.{Contents, Held}
use Rattle.page_pool.specs.Frames.{Frames, frame_byte}
use Rattle.paged_space.specs.declared.extent.Extent.{Extent}

-- the extents of a space, the frame of each of its pages, and whether the page may be written
pub record PageTable : Type 0 where
  pub extents : List Extent
  pub frames : List ℕ
  pub writes : List Bool

abbrev pub table : List Extent → List ℕ → List Bool → PageTable
table es fs ws = record { extents = es; frames = fs; writes = ws }

-- the first address behind an extent
abbrev pub extent_end : Extent → ℕ
extent_end e = e.base + e.len

-- the address lies in the extent
abbrev pub extent_holds : Extent → ℕ → Bool
extent_holds e a = nat_le e.base a && nat_lt a (extent_end e)

-- the place of the page on which an address lies
abbrev pub page_at : Extent → ℕ → ℕ
page_at e a = e.first + (a / 4096 - e.base / 4096)

-- how many pages an extent that is not empty touches
abbrev pub pages_of : Extent → ℕ
pages_of e = (extent_end e - 1) / 4096 - e.base / 4096 + 1

-- the place of the page of an address, if it is mapped
unfoldable pub place_at : List Extent → ℕ → Option ℕ
place_at [] a = None
place_at (e ∷ es) a = if extent_holds e a then Some (page_at e a) else place_at es a

-- what frame f holds for an address
abbrev pub held_in : Frames → ℕ → Bool → ℕ → Held
held_in s a w f = record { byte = frame_byte s f (a % 4096); writes = w }

-- whether the page at this place may be written
abbrev pub may_write : List Bool → ℕ → Bool
may_write ws k = slice_index_or ws k false

-- what the page at place k holds for an address
abbrev pub held_on : PageTable → Frames → ℕ → ℕ → Option Held
held_on t s a k = option_map (held_in s a (may_write t.writes k)) (slice_get t.frames k)

-- what a space maps
unfoldable pub contents_of : PageTable → Frames → Contents
contents_of t s a = option_and_then (held_on t s a) (place_at t.extents a)

-- extents that are not empty, in order, whose pages stand behind one another from at on up to total
unfoldable pub is_laid : ℕ → ℕ → List Extent → ℕ → Bool
is_laid low at [] total = at == total
is_laid low at (e ∷ es) total = ((nat_le low e.base && nat_lt 0 e.len) && (nat_le (extent_end e) (2 ^ 32) && (e.first == at))) && is_laid (extent_end e) (at + pages_of e) es total

-- what every space keeps
pub record IsSound (t : PageTable) : Type 0 where
  pub laid : is_laid 0 0 t.extents (length t.frames) ≡ true
  pub flags : length t.writes ≡ length t.frames
  pub once : (n : ℕ) → count_by (λ f. f == n) t.frames ≤ 1
  pub few : length t.frames < 2 ^ 32
