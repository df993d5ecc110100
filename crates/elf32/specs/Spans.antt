-- The addresses that segments take, as the code keeps them.
use Rattle.std.specs.Prelude.{◌≡◌, ℕ, ◌+◌, ◌<◌, ◌≤◌, nat_lt, min, max, Bool, List, length, All, AllPairs}
use Rattle.std.specs.List.{list_any, AllWithin}
use Rattle.elf32.specs.declared.headers.ProgramHeader.{ProgramHeader}
use Rattle.elf32.specs.declared.taken.Span.{Span}
use Rattle.elf32.specs.declared.taken.Taken.{Taken}
use Rattle.elf32.specs.Faults.{end_of, shares_byte}

-- where a span ends
abbrev pub span_end : Span → ℕ
span_end s = s.base + s.len

-- a segment and a span have an address in common
abbrev pub shares_address : ProgramHeader → Span → Bool
shares_address g s = nat_lt (max g.address s.base) (min (end_of g) (span_end s))

-- the first place whose span ends behind an address
abbrev pub IsPlace : ℕ → List Span → ℕ → Type 0
IsPlace a spans i = AllWithin (λ s. span_end s ≤ a) spans 0 i × AllWithin (λ s. a < span_end s) spans i (length spans)

-- the spans hold an address each, and each ends before the next one begins
pub record AreOrdered (spans : List Span) : Type 0 where
  pub some : All (λ s. 0 < s.len) spans
  pub order : AllPairs (λ s t. span_end s ≤ t.base) spans

-- these spans are those of the segments
pub record Shows (taken : Taken) (before : List ProgramHeader) : Type 0 where
  pub ordered : AreOrdered taken.spans.items
  pub same : (g : ProgramHeader) → list_any (shares_address g) taken.spans.items ≡ list_any (shares_byte g) before
