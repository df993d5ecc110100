-- Loads and stores of numbers: alignment first, then the bytes.
use Rattle.std.specs.Prelude.{ℕ, ◌%◌, ◌^◌, ◌==◌, Bool, ◌&&◌, ◌||◌, not, if◌then◌else◌, List, Option, Some, None, Result, Ok, Err}
use Rattle.byteorder.specs.Endian.{big_number, little_number, big_bytes, little_bytes}
use Rattle.rtl_core.specs.declared.expr.Order.{Order}
use Rattle.rtl_core.specs.declared.expr.Order.TheVariants.{Little, Big}
use Rattle.rtl_core.specs.declared.stop.Trap.{Trap}
use Rattle.rtl_core.specs.Contents.{Contents, Held, is_mapped, is_writable, first_fault, bytes_from, put_all}

-- the number that n bytes spell
abbrev pub number : Order → ℕ → List ℕ → ℕ
number Little n bytes = little_number n bytes
number Big n bytes = big_number n bytes

-- the n bytes that spell a number modulo 256^n
abbrev pub spelled : Order → ℕ → ℕ → List ℕ
spelled Little n v = little_bytes n (v % 256 ^ n)
spelled Big n v = big_bytes n (v % 256 ^ n)

-- the sizes of accesses, in bytes
abbrev pub is_size : ℕ → Bool
is_size n = (n == 1) || (n == 2) || (n == 4) || (n == 8)

-- whether the size does not divide the address, where that matters
abbrev pub is_misaligned : Bool → ℕ → ℕ → Bool
is_misaligned align n a = align && not (a % n == 0)

-- the fault of an access of n bytes at a whose bytes all have to pass
abbrev pub access_fault : Bool → (Option Held → Bool) → Contents → ℕ → ℕ → Option Trap
access_fault align passes m n a = if is_misaligned align n a then Some (Trap.Misaligned (a % 2 ^ 32)) else memory_fault (first_fault passes m a n)
  where
    memory_fault : Option ℕ → Option Trap
    memory_fault None = None
    memory_fault (Some at) = Some (Trap.Memory at)

-- a value, unless there is a fault
abbrev pub unless : {T : Type 0} → Option Trap → T → Result T Trap
unless None v = Ok v
unless (Some trap) v = Err trap

-- a load of n bytes at a
unfoldable pub loaded : Order → Bool → Contents → ℕ → ℕ → Result ℕ Trap
loaded order align m n a = unless (access_fault align is_mapped m n a) (number order n (bytes_from m a n))

-- the memory after a store of n bytes at a; a store that faults writes nothing
unfoldable pub stored : Order → Bool → Contents → ℕ → ℕ → ℕ → Result Contents Trap
stored order align m n a v = unless (access_fault align is_writable m n a) (put_all m a (spelled order n v))
