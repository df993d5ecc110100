-- Ranges as a Space keeps them, and where an address stands among them.
use Rattle.std.specs.Prelude.{◌≡◌, ℕ, ◌-◌, ◌≤◌, ◌<◌, ◌==◌, ◌&&◌, nat_le, nat_lt, Bool, true, if◌then◌else◌, List, [], ◌∷◌, length, slice_index_or, slice_set}
use Rattle.space.specs.declared.range.Range.{Range}
use Rattle.space.specs.Ranges.{end_of, holds}

-- a range that is not empty and has all its bytes
abbrev pub is_whole : Range → Bool
is_whole r = nat_lt 0 r.len && (length r.bytes == r.len)

-- whole ranges, each at or above the end of the one before, the first at or above this address
unfoldable pub ascends : ℕ → List Range → Bool
ascends low [] = true
ascends low (r ∷ rs) = (is_whole r && nat_le low r.base) && ascends (end_of r) rs

-- the first n ranges end at or below the address, and the others above it
pub record IsPassed (rs : List Range) (a n : ℕ) : Type 0 where
  pub within : n ≤ length rs
  pub below : (k : ℕ) (d : Range) → k < n → end_of (slice_index_or rs k d) ≤ a
  pub above : (k : ℕ) (d : Range) → n ≤ k → k < length rs → a < end_of (slice_index_or rs k d)

-- the address lies in the range at this place
pub record IsAt (rs : List Range) (a n : ℕ) : Type 0 where
  pub within : n < length rs
  pub lies : (d : Range) → holds (slice_index_or rs n d) a ≡ true

-- a range with one byte written, where its bytes may be
abbrev pub written : Range → ℕ → ℕ → Range
written r a v = if r.write then record r { bytes = slice_set r.bytes (a - r.base) v } else r
