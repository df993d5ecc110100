-- The first memory of an image, and the first cells.
use Rattle.std.specs.Prelude.{ℕ, ◌+◌, ◌-◌, ◌≤◌, ◌&&◌, nat_le, nat_lt, Bool, true, if◌then◌else◌, List, [], ◌∷◌, ◌++◌, length, replicate, slice_index, slice_set, Option, Some, None}
use Rattle.std.specs.Option.{option_or}
use Rattle.rtl_core.specs.declared.conv.Conv.{Conv}
use Rattle.rtl_core.specs.declared.machine.Machine.{Machine}
use Rattle.rtl_core.specs.Contents.{Contents, Held}

-- a part of an image: its bytes from the base on, and zeros behind them up to its length
pub record Part : Type 0 where
  pub base : ℕ
  pub len : ℕ
  pub writes : Bool
  pub bytes : List ℕ

-- what a part maps at an address
abbrev pub part_at : Part → ℕ → Option Held
part_at p a = if nat_le p.base a && nat_lt a (p.base + p.len) then Some (record { byte = slice_index p.bytes (a - p.base); writes = p.writes }) else None

-- the parts as a memory
unfoldable pub parts_memory : List Part → Contents
parts_memory [] a = None
parts_memory (p ∷ ps) a = option_or (part_at p a) (parts_memory ps a)

-- an area of zeros that may be written
abbrev pub area : ℕ → ℕ → Part
area base size = record { base = base; len = size; writes = true; bytes = [] }

-- the heap and the stack of conventions
abbrev pub areas : Conv → List Part
areas conv = area conv.heap_base conv.heap_size ∷ area conv.stack_base conv.stack_size ∷ []

-- a block of bytes that stands whole at one place of a memory
pub record Block : Type 0 where
  pub place : ℕ
  pub bytes : List ℕ

-- a memory with a block put in, whose bytes may be written
unfoldable pub with_block : Block → Contents → Contents
with_block b m a =
    if nat_le b.place a && nat_lt a (b.place + length b.bytes) then Some (record { byte = slice_index b.bytes (a - b.place); writes = true }) else m a

-- the first value of the stack cell
abbrev pub first_stack : Conv → ℕ
first_stack conv = conv.stack_base + conv.stack_size - conv.room

-- the first cells: all 0 but the stack cell
abbrev pub first_cells : Machine → Conv → List ℕ
first_cells m conv = slice_set (replicate (length m.widths) 0) conv.stack_cell (first_stack conv)

-- the first memory: the parts of the image, the heap and the stack, and a block put in
abbrev pub first_memory : List Part → Conv → Block → Contents
first_memory parts conv block = with_block block (parts_memory (parts ++ areas conv))

-- the block lies whole in the stack
abbrev pub IsInStack : Conv → Block → Type 0
IsInStack conv block = (conv.stack_base ≤ block.place) × (block.place + length block.bytes ≤ conv.stack_base + conv.stack_size)
