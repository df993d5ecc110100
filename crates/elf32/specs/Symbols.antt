-- The symbols of an executable (System V ABI, "Sections" and "Symbol Table").
use Rattle.std.specs.Prelude.{ℕ, ◌+◌, ◌*◌, ◌/◌, ◌==◌, ◌&&◌, nat_le, not, Bool, List, [], length, map, filter, slice_index, bit_and, Option, Some, None, if◌then◌else◌}
use Rattle.std.specs.List.{range_with_len, find}
use Rattle.rtl_core.specs.declared.expr.Order.{Order}
use Rattle.elf32.specs.declared.symbols.Section.{Section}
use Rattle.elf32.specs.declared.symbols.Symbol.{Symbol}
use Rattle.elf32.specs.Numbers.{half, word}
use Rattle.elf32.specs.Headers.{sections_at, section_size, section_count}

-- the section header at a place: `sh_type`, `sh_offset`, `sh_size`
unfoldable pub section_from : Order → List ℕ → ℕ → Section
section_from order file at = record { kind = word order file (at + 4); offset = word order file (at + 16); size = word order file (at + 20) }

-- the section headers have 40 bytes each and lie in the file
abbrev pub has_sections : Order → List ℕ → Bool
has_sections order file =
    (section_size order file == 40) && nat_le (sections_at order file + 40 * section_count order file) (length file)

-- the section headers, in their order; none where they are cut
unfoldable pub sections : Order → List ℕ → List Section
sections order file =
    if has_sections order file
    then map (λ i. section_from order file (sections_at order file + 40 * i)) (range_with_len 0 (section_count order file))
    else []

-- a symbol table (`SHT_SYMTAB`) that lies in a file of so many bytes
abbrev pub is_whole_table : ℕ → Section → Bool
is_whole_table len s = (s.kind == 2) && nat_le (s.offset + s.size) len

-- the symbol at a place: `st_value`, `st_info`, `st_shndx`
unfoldable pub symbol_from : Order → List ℕ → ℕ → Symbol
symbol_from order file at = record { value = word order file (at + 4); info = slice_index file (at + 12); section = half order file (at + 14) }

-- a function (`STT_FUNC`) that some section holds
abbrev pub is_function : Symbol → Bool
is_function s = (bit_and s.info 15 == 2) && not (s.section == 0)

-- the symbols of a table, of 16 bytes each
unfoldable pub symbols_in : Order → List ℕ → Section → List Symbol
symbols_in order file table = map (λ i. symbol_from order file (table.offset + 16 * i)) (range_with_len 0 (table.size / 16))

-- the values of a table's functions
abbrev pub functions_of : Order → List ℕ → Section → List ℕ
functions_of order file table = map (λ s. s.value) (filter is_function (symbols_in order file table))

-- the same, and none where there is no table
abbrev pub functions_in : Order → List ℕ → Option Section → List ℕ
functions_in order file None = []
functions_in order file (Some table) = functions_of order file table

-- the addresses of the functions that the first whole symbol table defines
unfoldable pub symbols : Order → List ℕ → List ℕ
symbols order file = functions_in order file (find (is_whole_table (length file)) (sections order file))
