-- The checks of a line, each with what the lines before it say.
use Rattle.std.specs.Prelude.{ℕ, ◌^◌, ◌==◌, ◌||◌, not, Bool, false, nat_lt, is_none, is_some, List, [], ◌∷◌, ◌++◌, slice_index, Option, Some, None, Result, Ok, Err, if◌then◌else◌}
use Rattle.std.specs.Option.{option_or}
use Rattle.rtl_core.specs.declared.machine.Machine.{Machine}
use Rattle.rtl_core.specs.declared.machine.NamedMachine.{NamedMachine}
use Rattle.conv_syntax.specs.declared.line.ConvLine.{ConvLine}
use Rattle.conventions.specs.declared.fact.Fact.{Fact}
use Rattle.conventions.specs.declared.fact.Fact.TheVariants.{Elf, Stack, Heap, Service, Exit, Read, Write, Brk, Errors, Link, Entry, Whole, Args}
use Rattle.conventions.specs.declared.fact.ServiceCells.{ServiceCells}
use Rattle.conventions.specs.declared.said.Said.{Said}
use Rattle.conventions.specs.declared.fault.ConvFault.{ConvFault}
use Rattle.conventions.specs.declared.fault.ConvFault.TheVariants.{Unknown, Twice, FieldRange, WidthDiffers}
use Rattle.conventions.specs.Areas.{heap_limit, is_area, is_offset, is_stack, meets_heap, meets_stack}
use Rattle.conventions.specs.Facts.{fact_of}
use Rattle.conventions.specs.Said.{said_by, facts_of}

-- a line before the one that it speaks of: `args` before `stack`
abbrev pub is_early : Said → Fact → Bool
is_early said (Args n) = is_none said.stack
is_early said _ = false

-- a second line of a kind that stands once
abbrev pub is_twice : Said → Fact → Bool
is_twice said (Elf n) = is_some said.elf
is_twice said (Stack area) = is_some said.stack
is_twice said (Heap area) = is_some said.heap
is_twice said (Service cells) = is_some said.service
is_twice said (Exit n) = is_some said.exit
is_twice said (Read n) = is_some said.read
is_twice said (Write n) = is_some said.write
is_twice said (Brk n) = is_some said.brk
is_twice said (Errors numbers) = is_some said.errors
is_twice said (Link cell) = is_some said.link
is_twice said (Args n) = is_some said.args
is_twice said _ = false

-- a number has more than so many bits
abbrev pub is_over : ℕ → ℕ → Bool
is_over bits n = not (nat_lt n (2 ^ bits))

-- a number that its place cannot hold, or an area that cannot stand
abbrev pub is_out_of_range : Machine → Said → Fact → Bool
is_out_of_range m said (Elf n) = is_over 16 n
is_out_of_range m said (Stack stack) = not (is_stack m stack) || meets_heap said.heap stack
is_out_of_range m said (Heap heap) = not (is_area heap_limit heap.base heap.size) || meets_stack said.stack heap
is_out_of_range m said (Exit n) = is_over 32 n
is_out_of_range m said (Read n) = is_over 32 n
is_out_of_range m said (Write n) = is_over 32 n
is_out_of_range m said (Brk n) = is_over 32 n
is_out_of_range m said (Errors numbers) = is_over 32 numbers.fault || (is_over 32 numbers.descriptor || is_over 32 numbers.unknown)
is_out_of_range m said (Entry n) = is_over 32 n
is_out_of_range m said (Whole n) = is_over 32 n
is_out_of_range m said (Args n) = not (is_offset said.stack n)
is_out_of_range m said _ = false

-- the same two checks of a line that holds one number
abbrev pub number_fault : ℕ → ℕ → Bool → ℕ → Option ConvFault
number_fault line bits is_there n = if is_there then Some (Twice line) else (if is_over bits n then Some (FieldRange line) else None)

-- a cell does not have the width that its place asks for
abbrev pub width_fault : Machine → ℕ → ℕ → ℕ → Option ConvFault
width_fault m line asked cell = let found = slice_index m.widths cell in if found == asked then None else Some (WidthDiffers line asked found)

-- an error cell asks for 1 bit
abbrev pub error_width_fault : Machine → ℕ → Option ℕ → Option ConvFault
error_width_fault m line None = None
error_width_fault m line (Some cell) = width_fault m line 1 cell

-- the cells of a service from left to right
abbrev pub service_width_fault : Machine → ℕ → ServiceCells → Option ConvFault
service_width_fault m line cells =
    option_or (width_fault m line 32 cells.number) (option_or (width_fault m line 32 cells.arg_x)
    (option_or (width_fault m line 32 cells.arg_y) (option_or (width_fault m line 32 cells.arg_z)
    (option_or (width_fault m line 32 cells.result) (error_width_fault m line cells.error)))))

-- the cells of a line
abbrev pub widths_fault : Machine → ℕ → Fact → Option ConvFault
widths_fault m line (Stack stack) = width_fault m line 32 stack.cell
widths_fault m line (Service cells) = service_width_fault m line cells
widths_fault m line (Link cell) = width_fault m line 32 cell
widths_fault m line _ = None

-- the first fault of a line whose names are known, and of any line
abbrev pub fact_fault : Machine → Said → ℕ → Fact → Option ConvFault
fact_fault m said line f =
    if is_early said f then Some (Unknown line)
    else (if is_twice said f then Some (Twice line)
    else (if is_out_of_range m said f then Some (FieldRange line)
    else widths_fault m line f))

abbrev pub fault_of : Machine → Said → ℕ → Option Fact → Option ConvFault
fault_of m said line None = Some (Unknown line)
fault_of m said line (Some f) = fact_fault m said line f

-- the fault of a line behind others
abbrev pub line_fault : List (List ℕ × ℕ) → NamedMachine → List ConvLine → ConvLine → Option ConvFault
line_fault table named before line = fault_of named.machine (said_by (facts_of table named before)) line.number (fact_of table named line.body)

-- the fault of the first line that has one
unfoldable pub first_fault : List (List ℕ × ℕ) → NamedMachine → List ConvLine → List ConvLine → Option ConvFault
first_fault table named before [] = None
first_fault table named before (line ∷ lines) = option_or (line_fault table named before line) (first_fault table named (before ++ line ∷ []) lines)

-- the value, unless there is a fault
abbrev pub unless : {A : Type 0} → Option ConvFault → A → Result A ConvFault
unless None value = Ok value
unless (Some fault) value = Err fault

-- what a line says, or its fault
abbrev pub checked : Machine → Said → ℕ → Option Fact → Result Fact ConvFault
checked m said line None = Err (Unknown line)
checked m said line (Some f) = unless (fact_fault m said line f) f

-- the instruction of a name, or that there is none
abbrev pub known_instruction : ℕ → Option ℕ → Result ℕ ConvFault
known_instruction line None = Err (Unknown line)
known_instruction line (Some c) = Ok c
