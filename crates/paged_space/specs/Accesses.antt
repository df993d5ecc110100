-- What loads and stores of a Space answer.
use Rattle.std.specs.Prelude.{ℕ, Option, Some, None, Result, Ok, Err}
use Rattle.rtl_core.specs.declared.expr.Order.{Order}
use Rattle.rtl_core.specs.declared.stop.Trap.{Trap}
use Rattle.rtl_core.specs.declared.stop.Trap.TheVariants.{Memory, Misaligned, Divide}
use Rattle.rtl_core.specs.Contents.{Contents, is_mapped, is_writable, first_fault, bytes_from, put_all}
use Rattle.rtl_core.specs.Access.{number, spelled}
use Rattle.paged_space.specs.declared.fault.AccessFault.{AccessFault}

-- a value, or the first byte at fault
abbrev pub or_fault : {T : Type 0} → Option ℕ → T → Result T AccessFault
or_fault None v = Ok v
or_fault (Some a) v = Err (record { address = a })

-- a load of n bytes at a: their number, or the first that is not mapped
abbrev pub load_answer : Contents → Order → ℕ → ℕ → Result ℕ AccessFault
load_answer m order n a = or_fault (first_fault is_mapped m a n) (number order n (bytes_from m a n))

-- the memory after a store of n bytes at a, or the first that may not be written
abbrev pub store_answer : Contents → Order → ℕ → ℕ → ℕ → Result Contents AccessFault
store_answer m order n a v = or_fault (first_fault is_writable m a n) (put_all m a (spelled order n v))

-- the fault that a trap tells
abbrev pub fault_of : Trap → AccessFault
fault_of (Memory a) = record { address = a }
fault_of (Misaligned a) = record { address = a }
fault_of Divide = record { address = 0 }
