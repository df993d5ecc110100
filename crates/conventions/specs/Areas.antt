-- Areas of memory that may stand.
use Rattle.std.specs.Prelude.{ℕ, ◌+◌, ◌-◌, ◌%◌, ◌^◌, ◌==◌, ◌&&◌, not, Bool, false, nat_le, nat_lt, Option, Some, None}
use Rattle.rtl_core.specs.declared.machine.Machine.{Machine}
use Rattle.conventions.specs.declared.fact.Area.{Area}
use Rattle.conventions.specs.declared.fact.StackArea.{StackArea}

-- the greatest sizes of a stack and of a heap: 8 MiB and 16 MiB
abbrev pub stack_limit : ℕ
stack_limit = 8388608

abbrev pub heap_limit : ℕ
heap_limit = 16777216

-- whole pages, not none, not over the limit, up to 2^32 at most
abbrev pub is_area : ℕ → ℕ → ℕ → Bool
is_area limit base size = (base % 4096 == 0) && ((size % 4096 == 0) && (nat_lt 0 size && (nat_le size limit && nat_le (base + size) (2 ^ 32))))

-- the room lies in the stack and is a multiple of 8, and the stack cell's first value has 32 bits
abbrev pub is_room : ℕ → ℕ → ℕ → Bool
is_room base size room = nat_le room size && ((room % 8 == 0) && nat_lt (base + size - room) (2 ^ 32))

-- the cell is the zero cell
abbrev pub is_zero : Option ℕ → ℕ → Bool
is_zero None cell = false
is_zero (Some zeroed) cell = zeroed == cell

-- a stack of a machine
abbrev pub is_stack : Machine → StackArea → Bool
is_stack m stack = is_area stack_limit stack.base stack.size && (is_room stack.base stack.size stack.room && not (is_zero m.zero stack.cell))

-- the arguments begin in the room of the stack, at a word
abbrev pub is_offset : Option StackArea → ℕ → Bool
is_offset None offset = false
is_offset (Some stack) offset = nat_le offset stack.room && (offset % 4 == 0)

-- two areas share a byte
abbrev pub shares : ℕ → ℕ → ℕ → ℕ → Bool
shares base size other bytes = nat_lt base (other + bytes) && nat_lt other (base + size)

-- the stack shares a byte with the heap, where there is one
abbrev pub meets_heap : Option Area → StackArea → Bool
meets_heap None stack = false
meets_heap (Some heap) stack = shares heap.base heap.size stack.base stack.size

-- the heap shares a byte with the stack, where there is one
abbrev pub meets_stack : Option StackArea → Area → Bool
meets_stack None heap = false
meets_stack (Some stack) heap = shares heap.base heap.size stack.base stack.size
