-- The heap and the stack of conventions, and the first segment that is in their way.
use Rattle.std.specs.Prelude.{◌≡◌, ℕ, ◌+◌, ◌≤◌, ◌<◌, ◌⊎◌, ◌||◌, Bool, true, List, [], ◌∷◌, ◌++◌, All, Option, option_map}
use Rattle.std.specs.List.{find}
use Rattle.rtl_core.specs.declared.conv.Conv.{Conv}
use Rattle.elf32.specs.declared.elf.Segment.{Segment}
use Rattle.elf32.specs.Reading.{IsIn}
use Rattle.space.specs.declared.range.Range.{Range}
use Rattle.space.specs.Ranges.{shares}
use Rattle.load_image.specs.declared.fault.ImageFault.{ImageFault}
use Rattle.load_image.specs.declared.fault.ImageFault.TheVariants as faults

-- a segment as a range: its bytes, and zeros behind them up to its length
abbrev pub range_of : Segment → Range
range_of s = record { base = s.base; len = s.len; write = s.write; bytes = s.bytes }

-- an area of zeros that may be written
abbrev pub zeros : ℕ → ℕ → Range
zeros base size = record { base = base; len = size; write = true; bytes = [] }

-- the heap and the stack
abbrev pub heap : Conv → Range
heap conv = zeros conv.heap_base conv.heap_size

abbrev pub stack : Conv → Range
stack conv = zeros conv.stack_base conv.stack_size

-- ---- as a test

-- the segment shares a byte with the heap or the stack
abbrev pub meets_area : Conv → Segment → Bool
meets_area conv s = shares (range_of s) (heap conv) || shares (range_of s) (stack conv)

-- the first segment that does, by the number of its program header
abbrev pub overlap_fault : Conv → List Segment → Option ImageFault
overlap_fault conv segments = option_map (λ s. faults.AreaOverlap s.header) (find (meets_area conv) segments)

-- ---- in addresses

-- an address lies in the heap, or in the stack
abbrev pub IsInHeap : Conv → ℕ → Type 0
IsInHeap conv a = (conv.heap_base ≤ a) × (a < conv.heap_base + conv.heap_size)

abbrev pub IsInStack : Conv → ℕ → Type 0
IsInStack conv a = (conv.stack_base ≤ a) × (a < conv.stack_base + conv.stack_size)

-- some address of the segment lies in the heap or the stack
pub record SharesByte (conv : Conv) (s : Segment) : Type 0 where
  pub address : ℕ
  pub in_segment : IsIn address s
  pub in_area : IsInHeap conv address ⊎ IsInStack conv address

-- the fault tells a segment that shares a byte with an area, and none before it does
pub record IsFirstOverlap (conv : Conv) (segments : List Segment) (fault : ImageFault) : Type 0 where
  pub before : List Segment
  pub segment : Segment
  pub behind : List Segment
  pub stands : before ++ segment ∷ behind ≡ segments
  pub tells : fault ≡ faults.AreaOverlap segment.header
  pub shares_byte : SharesByte conv segment
  pub first : All (λ s. ¬ SharesByte conv s) before
