-- The first fault of an executable.
use Rattle.std.specs.Prelude.{ℕ, ◌+◌, ◌*◌, ◌^◌, ◌==◌, ◌&&◌, ◌||◌, nat_lt, nat_le, not, min, max, Bool, List, [], ◌∷◌, ◌++◌, length, slice_index, sum_by, Option, None}
use Rattle.std.specs.Bool.{then_some}
use Rattle.std.specs.List.{list_any, find}
use Rattle.std.specs.Option.{option_or, option_map}
use Rattle.rtl_core.specs.declared.conv.Conv.{Conv}
use Rattle.rtl_core.specs.declared.expr.Order.{Order}
use Rattle.rtl_core.specs.declared.expr.Order.TheVariants.{Little, Big}
use Rattle.elf32.specs.declared.fault.ElfFault.{ElfFault}
use Rattle.elf32.specs.declared.fault.ElfFault.TheVariants as faults
use Rattle.elf32.specs.declared.headers.ProgramHeader.{ProgramHeader}
use Rattle.elf32.specs.Numbers.{word}
use Rattle.elf32.specs.Headers.{file_type, machine_kind, entry, headers_at, header_size, header_count, headers, loads, is_interp, runs, writes}

-- the first of several faults that is there
abbrev pub first : List (Option ElfFault) → Option ElfFault
first [] = None
first (o ∷ os) = option_or o (first os)

-- ---- the file header

-- the file begins with 7F 45 4C 46
abbrev pub has_magic : List ℕ → Bool
has_magic file = word Big file 0 == 0x7F454C46

-- `EI_DATA` of a byte order
abbrev pub order_byte : Order → ℕ
order_byte Little = 1
order_byte Big = 2

-- there are program headers, and they have not 32 bytes each, or end behind the file
abbrev pub are_headers_cut : Order → List ℕ → Bool
are_headers_cut order file =
    not (header_count order file == 0)
    && (not (header_size order file == 32) || nat_lt (length file) (headers_at order file + 32 * header_count order file))

-- the fault of the file header
unfoldable pub header_fault : List ℕ → Conv → Order → Option ElfFault
header_fault file conv order = first (
    then_some (nat_lt (length file) 52) faults.Short
    ∷ then_some (not (has_magic file)) faults.Magic
    ∷ then_some (not (slice_index file 4 == 1)) faults.Class
    ∷ then_some (not (slice_index file 5 == order_byte order)) faults.Order
    ∷ then_some (not (file_type order file == 2)) (faults.FileType (file_type order file))
    ∷ then_some (not (machine_kind order file == conv.elf)) (faults.MachineKind (machine_kind order file))
    ∷ then_some (are_headers_cut order file) faults.HeadersCut
    ∷ [])

-- ---- the program headers

-- the first header that asks for an interpreter
unfoldable pub interp_fault : List ProgramHeader → Option ElfFault
interp_fault hs = option_map (λ h. faults.Interp h.index) (find is_interp hs)

-- where a segment ends
abbrev pub end_of : ProgramHeader → ℕ
end_of h = h.address + h.memory_size

-- some address lies in both segments: the later base is before the earlier end
abbrev pub shares_byte : ProgramHeader → ProgramHeader → Bool
shares_byte g h = nat_lt (max g.address h.address) (min (end_of g) (end_of h))

-- the fault of a segment in a file of so many bytes, with those of the headers before it
unfoldable pub load_fault : ℕ → List ProgramHeader → ProgramHeader → Option ElfFault
load_fault len before h = first (
    then_some (nat_lt len (h.offset + h.file_size)) (faults.SegmentCut h.index)
    ∷ then_some (nat_lt h.memory_size h.file_size) (faults.SegmentSizes h.index)
    ∷ then_some (nat_lt (2 ^ 32) (end_of h)) (faults.SegmentRange h.index)
    ∷ then_some (list_any (shares_byte h) before) (faults.SegmentOverlap h.index)
    ∷ [])

-- the fault of each segment, with those of the headers before it
abbrev pub each_fault : ℕ → List ProgramHeader → List ProgramHeader → List (Option ElfFault)
each_fault len before [] = []
each_fault len before (h ∷ hs) = load_fault len before h ∷ each_fault len (before ++ h ∷ []) hs

-- the fault of the first segment that has one
unfoldable pub loads_fault : ℕ → List ProgramHeader → List ProgramHeader → Option ElfFault
loads_fault len before hs = first (each_fault len before hs)

-- ---- the image

-- how many bytes the segments take
abbrev pub total : List ProgramHeader → ℕ
total hs = sum_by (λ h. h.memory_size) hs

-- an address lies in a segment that may be executed and not written
abbrev pub is_in_code : ℕ → ProgramHeader → Bool
is_in_code a h = runs h && not (writes h) && nat_le h.address a && nat_lt a (end_of h)

-- the fault of all segments together
unfoldable pub image_fault : ℕ → List ProgramHeader → Option ElfFault
image_fault a hs = first (
    then_some (length hs == 0) faults.NoLoad
    ∷ then_some (nat_lt 16777216 (total hs)) (faults.ImageTooLarge (total hs))
    ∷ then_some (not (list_any (is_in_code a) hs)) (faults.EntryOutside a)
    ∷ [])

-- ---- all of it

-- the first fault of an executable
unfoldable pub first_fault : List ℕ → Conv → Order → Option ElfFault
first_fault file conv order = first (
    header_fault file conv order
    ∷ interp_fault (headers order file)
    ∷ loads_fault (length file) [] (loads order file)
    ∷ image_fault (entry order file) (loads order file)
    ∷ [])
