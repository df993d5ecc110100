-- Ranges of addresses, and what they map.
use Rattle.std.specs.Prelude.{◌≡◌, ℕ, ◌+◌, ◌-◌, ◌≤◌, ◌&&◌, nat_le, nat_lt, min, max, Bool, true, false, List, length, map, slice_get, slice_index, Some, None}
use Rattle.std.specs.List.{list_any}
use Rattle.rtl_core.specs.Contents.{Contents, Held}
use Rattle.rtl_core.specs.FirstMemory.{Part, parts_memory}
use Rattle.paged_space.specs.declared.range.Range.{Range}

-- the first address behind a range
abbrev pub end_of : Range → ℕ
end_of r = r.base + r.len

-- the address lies in the range
abbrev pub holds : Range → ℕ → Bool
holds r a = nat_le r.base a && nat_lt a (end_of r)

-- a range as a part of a memory: its bytes from the base on, and zeros behind them up to its length
abbrev pub part_of : Range → Part
part_of r = record { base = r.base; len = r.len; writes = r.write; bytes = r.bytes }

-- what ranges map
abbrev pub memory_of : List Range → Contents
memory_of rs = parts_memory (map part_of rs)

-- what a range holds at one of its addresses
abbrev pub held : Range → ℕ → Held
held r a = record { byte = slice_index r.bytes (a - r.base); writes = r.write }

-- a memory is that of ranges: each address of a range holds what the range does, and no other address is mapped
pub record IsMapOf (rs : List Range) (m : Contents) : Type 0 where
  pub inside : (k : ℕ) (r : Range) (a : ℕ) → slice_get rs k ≡ Some r → holds r a ≡ true → m a ≡ Some (held r a)
  pub outside : (a : ℕ) → list_any (λ r. holds r a) rs ≡ false → m a ≡ None

-- the bytes of a range are no longer than the range
abbrev pub HasRoom : Range → Type 0
HasRoom r = length r.bytes ≤ r.len

-- some address lies in both ranges
pub record InBoth (r s : Range) : Type 0 where
  pub address : ℕ
  pub in_first : holds r address ≡ true
  pub in_second : holds s address ≡ true

-- the same as a test: the later of the two bases lies below the earlier of the two ends
abbrev pub shares : Range → Range → Bool
shares r s = nat_lt (max r.base s.base) (min (end_of r) (end_of s))
