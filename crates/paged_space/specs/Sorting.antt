-- Ranges by their bases, and the search for the first one at fault.
use denote.Ref.{Bor}
use Rattle.std.specs.Prelude.{◌≡◌, ℕ, ◌+◌, ◌^◌, ◌==◌, ◌≤◌, ◌<◌, ◌&&◌, nat_le, nat_lt, Bool, true, false, if◌then◌else◌, List, [], ◌∷◌, ◌++◌, length, map, take, None, slice_index_or}
use Rattle.std.specs.List.{list_any, sum_by}
use Rattle.paged_space.specs.declared.range.Range.{Range}
use Rattle.paged_space.specs.declared.fault.SpaceFault.{SpaceFault}
use Rattle.paged_space.specs.declared.fault.SpaceFault.TheVariants.{PastEnd, Overlap}
use Rattle.paged_space.specs.Ranges.{end_of}
use Rattle.paged_space.specs.Faults.{passes_end, told, ranges_fault}

-- the ranges that references point to
abbrev pub values : List (Bor Range) → List Range
values order = map (λ b. b.now) order

-- the same ranges but for the empty ones, by their bases: every sum over them is the same
pub record IsOrder (xs ys : List Range) : Type 0 where
  pub sums : (f : Range → ℕ) → ((r : Range) → r.len ≡ 0 → f r ≡ 0) → sum_by f ys ≡ sum_by f xs
  pub up : (k : ℕ) (d : Range) → k + 1 < length ys → (slice_index_or ys k d).base ≤ (slice_index_or ys (k + 1) d).base
  pub some : list_any (λ r. r.len == 0) ys ≡ false

-- one range, unless it is empty
abbrev pub kept : Range → List Range
kept r = if r.len == 0 then [] else r ∷ []

-- the ranges that are not empty
unfoldable pub nonempty : List Range → List Range
nonempty [] = []
nonempty (r ∷ rs) = kept r ++ nonempty rs

-- a range that is not empty and ends at 2^32 or before may stand behind one that ends here
abbrev pub goes_on : ℕ → Range → Bool
goes_on low r = (nat_le low r.base && nat_lt 0 r.len) && nat_le (end_of r) (2 ^ 32)

-- each range may stand behind the one before, the first behind this address
unfoldable pub rises : ℕ → List Range → Bool
rises low [] = true
rises low (r ∷ rs) = (nat_le low r.base && nat_lt 0 r.len) && (nat_le (end_of r) (2 ^ 32) && rises (end_of r) rs)

-- ranges have a fault
abbrev pub HasFault : List Range → Type 0
HasFault xs = ranges_fault [] xs ≡ None → ⊥

-- a test tells whether ranges have no fault
pub record IsClear (b : Bool) (xs : List Range) : Type 0 where
  pub good : b ≡ true → ranges_fault [] xs ≡ None
  pub bad : b ≡ false → HasFault xs

-- the first range at fault is not among the first low ones, and is among the first high ones
pub record Between (xs : List Range) (low high : ℕ) : Type 0 where
  pub order : low < high
  pub within : high ≤ length xs
  pub clear : ranges_fault [] (take low xs) ≡ None
  pub fault : HasFault (take high xs)

-- the fault of the range at this place, where it has one
abbrev pub the_fault : Range → ℕ → SpaceFault
the_fault r i = if passes_end r then PastEnd (told i) else Overlap (told i)
