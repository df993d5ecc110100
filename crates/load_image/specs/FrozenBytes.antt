-- The bytes of an image that no store changes, and those of them that are code.
use Rattle.std.specs.Prelude.{◌≡◌, ℕ, ◌+◌, ◌-◌, ◌^◌, ◌<◌, ◌≤◌, ◌&&◌, Bool, not, if◌then◌else◌, List, ◌++◌, length, map, filter, drop, replicate, All, Option, Some, None}
use Rattle.rtl_core.specs.declared.frozen.Frozen.{Frozen}
use Rattle.rtl_core.specs.declared.frozen.FrozenPart.{FrozenPart}
use Rattle.rtl_core.specs.Code.{frozen_byte, code_from}
use Rattle.rtl_core.specs.Contents.{Contents, Held}
use Rattle.elf32.specs.declared.elf.Segment.{Segment}
use Rattle.elf32.specs.Reading.{IsIn}

-- ---- as parts

-- the bytes of a segment with the zeros behind them
abbrev pub whole_bytes : Segment → List ℕ
whole_bytes s = s.bytes ++ replicate (s.len - length s.bytes) 0

-- a segment as a frozen part, which is code where it may be executed
abbrev pub part_of : Segment → FrozenPart
part_of s = record { base = s.base; code = s.exec; bytes = whole_bytes s }

-- the segment may not be written
abbrev pub is_fixed : Segment → Bool
is_fixed s = not s.write

-- the segments that may not be written
abbrev pub frozen_of : List Segment → Frozen
frozen_of segments = record { parts = map part_of (filter is_fixed segments) }

-- ---- in addresses

-- the byte of a mapped address that may not be written
abbrev pub fixed_byte : Option Held → Option ℕ
fixed_byte None = None
fixed_byte (Some h) = if h.writes then None else Some h.byte

-- the segment is code: it may be executed and not written
abbrev pub is_code_segment : Segment → Bool
is_code_segment s = s.exec && not s.write

-- the bytes of a code segment from an address to its end
abbrev pub code_rest : Segment → ℕ → Option (List ℕ)
code_rest s a = if is_code_segment s then Some (drop (a - s.base) (whole_bytes s)) else None

-- the frozen bytes are those mapped without the right to write, and code is the bytes of code segments, each with
-- those behind it up to the end of its segment
pub record IsFrozen (segments : List Segment) (memory : Contents) (frozen : Frozen) : Type 0 where
  pub bytes : (a : ℕ) → frozen_byte frozen a ≡ fixed_byte (memory a)
  pub code : All (λ s. (a : ℕ) → IsIn a s → code_from frozen a ≡ code_rest s a) segments
  pub no_code : (a : ℕ) → All (λ s. ¬ IsIn a s) segments → code_from frozen a ≡ None
  pub short : All (λ p. length p.bytes < 2 ^ 32) frozen.parts
  pub ends : All (λ p. p.base + length p.bytes ≤ 2 ^ 32) frozen.parts
