-- The first memory of an image.
use Rattle.std.specs.Prelude.{◌≡◌, ℕ, ◌-◌, true, List, [], ◌++◌, map, slice_index, All, Some, None}
use Rattle.rtl_core.specs.declared.conv.Conv.{Conv}
use Rattle.rtl_core.specs.Contents.{Contents, Held}
use Rattle.rtl_core.specs.FirstMemory.{Part, parts_memory, areas}
use Rattle.elf32.specs.declared.elf.Segment.{Segment}
use Rattle.elf32.specs.Reading.{IsIn}
use Rattle.space.specs.declared.range.Range.{Range}
use Rattle.space.specs.Ranges.{HasRoom, part_of}
use Rattle.space.specs.Faults.{ranges_fault}
use Rattle.load_image.specs.Areas.{range_of, IsInHeap, IsInStack}

-- a segment as a part of the first memory
abbrev pub segment_part : Segment → Part
segment_part s = part_of (range_of s)

-- what a segment holds at one of its addresses: the byte of the file, 0 behind those, and its right to write
abbrev pub held_by : Segment → ℕ → Held
held_by s a = record { byte = slice_index s.bytes (a - s.base); writes = s.write }

-- what an area holds
abbrev pub held_zero : Held
held_zero = record { byte = 0; writes = true }

-- a memory is the first one of these segments: at each address of a segment, of the heap and of the stack it holds
-- what they do, and no other address is mapped
pub record IsFirstMemory (segments : List Segment) (conv : Conv) (m : Contents) : Type 0 where
  pub in_segment : All (λ s. (a : ℕ) → IsIn a s → m a ≡ Some (held_by s a)) segments
  pub in_heap : (a : ℕ) → IsInHeap conv a → m a ≡ Some held_zero
  pub in_stack : (a : ℕ) → IsInStack conv a → m a ≡ Some held_zero
  pub elsewhere : (a : ℕ) → All (λ s. ¬ IsIn a s) segments → ¬ IsInHeap conv a → ¬ IsInStack conv a → m a ≡ None
  pub parts : m ≡ parts_memory (map segment_part segments ++ areas conv)

-- a memory can be built of the ranges: none is shorter than its bytes, passes 2^32 or shares an address with another
pub record AreBuildable (ranges : List Range) : Type 0 where
  pub room : All HasRoom ranges
  pub free : ranges_fault [] ranges ≡ None
