-- The file header and the program headers (System V ABI, "ELF Header" and "Program Header").
use Rattle.std.specs.Prelude.{ℕ, ◌+◌, ◌*◌, ◌==◌, ◌&&◌, nat_lt, not, Bool, List, map, filter, bit_and}
use Rattle.std.specs.List.{range_with_len}
use Rattle.rtl_core.specs.declared.expr.Order.{Order}
use Rattle.elf32.specs.declared.headers.ProgramHeader.{ProgramHeader}
use Rattle.elf32.specs.Numbers.{half, word}

-- ---- the file header

-- `e_type`
abbrev pub file_type : Order → List ℕ → ℕ
file_type order file = half order file 16

-- `e_machine`
abbrev pub machine_kind : Order → List ℕ → ℕ
machine_kind order file = half order file 18

-- `e_entry`
abbrev pub entry : Order → List ℕ → ℕ
entry order file = word order file 24

-- `e_phoff`, `e_phentsize` and `e_phnum`: where the program headers stand, the bytes of each, and how many there are
abbrev pub headers_at : Order → List ℕ → ℕ
headers_at order file = word order file 28

abbrev pub header_size : Order → List ℕ → ℕ
header_size order file = half order file 42

abbrev pub header_count : Order → List ℕ → ℕ
header_count order file = half order file 44

-- `e_shoff`, `e_shentsize` and `e_shnum`: the same of the section headers
abbrev pub sections_at : Order → List ℕ → ℕ
sections_at order file = word order file 32

abbrev pub section_size : Order → List ℕ → ℕ
section_size order file = half order file 46

abbrev pub section_count : Order → List ℕ → ℕ
section_count order file = half order file 48

-- ---- the program headers

-- the program header of this number at a place: `p_type`, `p_offset`, `p_vaddr`, `p_filesz`, `p_memsz`, `p_flags`
unfoldable pub header_from : Order → List ℕ → ℕ → ℕ → ProgramHeader
header_from order file index at = record {
  index = index;
  kind = word order file at;
  offset = word order file (at + 4);
  address = word order file (at + 8);
  file_size = word order file (at + 16);
  memory_size = word order file (at + 20);
  flags = word order file (at + 24);
}

-- the program header of a number
abbrev pub header_of : Order → List ℕ → ℕ → ProgramHeader
header_of order file i = header_from order file i (headers_at order file + 32 * i)

-- the program headers, in their order
abbrev pub headers : Order → List ℕ → List ProgramHeader
headers order file = map (header_of order file) (range_with_len 0 (header_count order file))

-- a header that asks for an interpreter (`PT_INTERP`)
abbrev pub is_interp : ProgramHeader → Bool
is_interp h = h.kind == 3

-- a header whose segment has a byte in memory (`PT_LOAD`)
abbrev pub is_load : ProgramHeader → Bool
is_load h = (h.kind == 1) && nat_lt 0 h.memory_size

-- the headers of the segments
unfoldable pub loads : Order → List ℕ → List ProgramHeader
loads order file = filter is_load (headers order file)

-- the segment may be executed (`PF_X`), or written (`PF_W`)
abbrev pub runs : ProgramHeader → Bool
runs h = not (bit_and h.flags 1 == 0)

abbrev pub writes : ProgramHeader → Bool
writes h = not (bit_and h.flags 2 == 0)
