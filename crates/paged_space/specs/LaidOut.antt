-- Ranges laid out on pages of their own, one behind the other.
use Rattle.std.specs.Prelude.{◌≡◌, ℕ, ◌+◌, ◌-◌, ◌*◌, ◌/◌, ◌%◌, ◌≤◌, ◌<◌, ◌==◌, nat_lt, Bool, if◌then◌else◌, List, [], ◌∷◌, ◌++◌, length, replicate, slice_index, count_by}
use Rattle.page_pool.specs.Frames.{Frames, holders_of, spare_of, frame_byte}
use Rattle.paged_space.specs.declared.range.Range.{Range}
use Rattle.paged_space.specs.declared.extent.Extent.{Extent}
use Rattle.paged_space.specs.Ranges.{end_of, memory_of}
use Rattle.paged_space.specs.PageTable.{PageTable, IsSound, contents_of}

-- how many pages a range that is not empty touches
abbrev pub pages_in : Range → ℕ
pages_in r = (end_of r - 1) / 4096 - r.base / 4096 + 1

-- where the bytes of a range begin on its page j
abbrev pub start_at : Range → ℕ → ℕ
start_at r j = if j == 0 then r.base % 4096 else 0

-- the address at k of its page j
abbrev pub address_at : Range → ℕ → ℕ → ℕ
address_at r j k = (r.base / 4096 + j) * 4096 + k

-- the byte at k of its page j
abbrev pub byte_wanted : Range → ℕ → ℕ → ℕ
byte_wanted r j k = if nat_lt (address_at r j k) r.base then 0 else slice_index r.bytes (address_at r j k - r.base)

-- the pages of ranges that are not empty
unfoldable pub pages_of_all : List Range → ℕ
pages_of_all [] = 0
pages_of_all (r ∷ rs) = pages_in r + pages_of_all rs

-- their extents, the first of which has its pages from this place on
unfoldable pub extents_of : ℕ → List Range → List Extent
extents_of at [] = []
extents_of at (r ∷ rs) = record { base = r.base; len = r.len; first = at } ∷ extents_of (at + pages_in r) rs

-- whether each of their pages may be written
unfoldable pub writes_of : List Range → List Bool
writes_of [] = []
writes_of (r ∷ rs) = replicate (pages_in r) r.write ++ writes_of rs

-- the byte at k of page p, counted over all of them
unfoldable pub expected : List Range → ℕ → ℕ → ℕ
expected [] p k = 0
expected (r ∷ rs) p k = if nat_lt p (pages_in r) then byte_wanted r p k else expected rs (p - pages_in r) k

-- how often a frame stands in a list
abbrev pub times : ℕ → List ℕ → ℕ
times n xs = count_by (λ f. f == n) xs

-- these frames, each once, had no holder and have one now; nothing else of the pool changed
pub record AreFresh (gs : List ℕ) (old new : Frames) : Type 0 where
  pub long : length new.holders ≡ length old.holders
  pub free : (n : ℕ) → 1 ≤ times n gs → holders_of old n ≡ 0
  pub once : (n : ℕ) → times n gs ≤ 1
  pub counts : (n : ℕ) → holders_of new n ≡ holders_of old n + times n gs
  pub bytes : (n k : ℕ) → times n gs ≡ 0 → k < 4096 → frame_byte new n k ≡ frame_byte old n k
  pub spare : spare_of new + length gs ≡ spare_of old

-- a list of frames got one more for each of the first pages of a range
pub record HasGrown (r : Range) (count : ℕ) (fs gs : List ℕ) (old new : Frames) : Type 0 where
  pub more : List ℕ
  pub is : gs ≡ fs ++ more
  pub long : length more ≡ count
  pub fresh : AreFresh more old new
  pub filled : (j k : ℕ) → j < count → k < 4096 → frame_byte new (slice_index more j) k ≡ byte_wanted r j k

-- these frames hold the first pages of ranges
abbrev pub Filled : List Range → List ℕ → Frames → Type 0
Filled rs fs s = (p k : ℕ) → p < length fs → k < 4096 → frame_byte s (slice_index fs p) k ≡ expected rs p k

-- how far a loop over ranges has come that has the last ones left
pub record Laid (rs rest : List Range) (es : List Extent) (fs : List ℕ) (ws : List Bool) (old new : Frames) : Type 0 where
  pub extents : es ++ extents_of (length fs) rest ≡ extents_of 0 rs
  pub writes : ws ++ writes_of rest ≡ writes_of rs
  pub long : length fs + pages_of_all rest ≡ pages_of_all rs
  pub flags : length ws ≡ length fs
  pub places : length es + length rest ≡ length rs
  pub fresh : AreFresh fs old new
  pub filled : Filled rs fs new
  pub ahead : (p k : ℕ) → expected rs (length fs + p) k ≡ expected rest p k

-- a space of ranges that rise
pub record IsBuilt (rs : List Range) (t : PageTable) (old new : Frames) : Type 0 where
  pub sound : IsSound t
  pub contents : contents_of t new ≡ memory_of rs
  pub fresh : AreFresh t.frames old new
  pub pages : length t.frames ≡ pages_of_all rs
  pub writes : t.writes ≡ writes_of rs
