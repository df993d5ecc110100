-- Why ranges make no memory.
use Rattle.std.specs.Prelude.{ℕ, ◌-◌, ◌^◌, nat_lt, min, Bool, if◌then◌else◌, List, [], ◌∷◌, ◌++◌, length, Option, Some, None}
use Rattle.std.specs.List.{list_any}
use Rattle.std.specs.Option.{option_or}
use Rattle.paged_space.specs.declared.range.Range.{Range}
use Rattle.paged_space.specs.declared.fault.SpaceFault.{SpaceFault}
use Rattle.paged_space.specs.declared.fault.SpaceFault.TheVariants.{PastEnd, Overlap}
use Rattle.paged_space.specs.Ranges.{end_of, shares}

-- the range goes past 2^32
abbrev pub passes_end : Range → Bool
passes_end r = nat_lt (2 ^ 32) (end_of r)

-- a place in a list as faults tell it: 2^32 - 1 at most
abbrev pub told : ℕ → ℕ
told i = min i (2 ^ 32 - 1)

-- the fault of the range with this number behind earlier ranges, if it has one; one that has both is past the end
abbrev pub range_fault : List Range → ℕ → Range → Option SpaceFault
range_fault earlier index r = if passes_end r then Some (PastEnd index) else if list_any (shares r) earlier then Some (Overlap index) else None

-- the fault of the first of the ranges that has one, behind earlier ranges
unfoldable pub ranges_fault : List Range → List Range → Option SpaceFault
ranges_fault earlier [] = None
ranges_fault earlier (r ∷ rs) = option_or (range_fault earlier (told (length earlier)) r) (ranges_fault (earlier ++ r ∷ []) rs)
