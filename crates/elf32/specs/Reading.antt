-- What an executable denotes: its segments, entry and symbols, or its first fault.
use Rattle.std.specs.Prelude.{ℕ, ◌+◌, ◌^◌, ◌<◌, ◌≤◌, List, length, map, slice_range, sum_by, All, AllPairs, Option, Some, None, Result, Ok, Err}
use Rattle.rtl_core.specs.declared.conv.Conv.{Conv}
use Rattle.rtl_core.specs.declared.expr.Order.{Order}
use Rattle.elf32.specs.declared.elf.Elf.{Elf}
use Rattle.elf32.specs.declared.elf.Segment.{Segment}
use Rattle.elf32.specs.declared.fault.ElfFault.{ElfFault}
use Rattle.elf32.specs.declared.headers.ProgramHeader.{ProgramHeader}
use Rattle.elf32.specs.Headers.{entry, loads, runs, writes}
use Rattle.elf32.specs.Symbols.{symbols}
use Rattle.elf32.specs.Faults.{first_fault}

-- the segment of a program header
abbrev pub segment_of : List ℕ → ProgramHeader → Segment
segment_of file h = record {
  header = h.index;
  base = h.address;
  len = h.memory_size;
  write = writes h;
  exec = runs h;
  bytes = slice_range file h.offset (h.offset + h.file_size);
}

-- the segments, the entry and the symbols of a file
unfoldable pub contents : Order → List ℕ → Elf
contents order file = record {
  entry = entry order file;
  segments = map (segment_of file) (loads order file);
  symbols = symbols order file;
}

-- what is there, unless there is a fault
abbrev pub unless : Option ElfFault → Elf → Result Elf ElfFault
unless None elf = Ok elf
unless (Some fault) elf = Err fault

-- what an executable denotes
abbrev pub elf_of : List ℕ → Conv → Order → Result Elf ElfFault
elf_of file conv order = unless (first_fault file conv order) (contents order file)

-- ---- what every executable without fault keeps

-- an address lies in a segment
abbrev pub IsIn : ℕ → Segment → Type 0
IsIn a s = (s.base ≤ a) × (a < s.base + s.len)

-- no address lies in both segments
abbrev pub AreApart : Segment → Segment → Type 0
AreApart s t = (a : ℕ) → IsIn a s → ¬ IsIn a t

-- the segments share no byte, end at 2^32 at most, have no more bytes than their length, and are not too large together
pub record AreLoadable (segments : List Segment) : Type 0 where
  pub apart : AllPairs AreApart segments
  pub ends : All (λ s. s.base + s.len ≤ 2 ^ 32) segments
  pub bytes : All (λ s. length s.bytes ≤ s.len) segments
  pub size : sum_by (λ s. s.len) segments ≤ 16777216
