-- Where an address stands among extents.
use Rattle.std.specs.Prelude.{◌≡◌, ℕ, ◌+◌, ◌≤◌, ◌<◌, ◌%◌, List, length, slice_index_or, Some}
use Rattle.paged_space.specs.declared.extent.Extent.{Extent}
use Rattle.paged_space.specs.PageTable.{extent_end, place_at}

-- the first n extents end at or below the address, and the next one above it
pub record IsPassed (es : List Extent) (a n : ℕ) : Type 0 where
  pub within : n ≤ length es
  pub below : (k : ℕ) (d : Extent) → k < n → extent_end (slice_index_or es k d) ≤ a
  pub above : (d : Extent) → n < length es → a < extent_end (slice_index_or es n d)

-- the n bytes from a on lie together on the page at this place
pub record OnPage (es : List Extent) (a n k : ℕ) : Type 0 where
  pub places : (i : ℕ) → i < n → place_at es (a + i) ≡ Some k
  pub room : a % 4096 + n ≤ 4096
