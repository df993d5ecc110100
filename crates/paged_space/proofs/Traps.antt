-- Accesses that ask for no alignment.
use Rattle.std.proofs.Common.{◌≡◌, ℕ, Bool, false, refl}
use Rattle.std.specs.Prelude.{Option, Some, None, Result, Ok, Err}
use Rattle.rtl_core.specs.declared.expr.Order.{Order}
use Rattle.rtl_core.specs.declared.stop.Trap.{Trap}
use Rattle.rtl_core.specs.Contents.{Contents, Held, is_mapped, is_writable, first_fault, bytes_from, put_all}
use Rattle.rtl_core.specs.Access.{number, spelled, access_fault, unless, loaded, stored}
use Rattle.paged_space.specs.declared.fault.AccessFault.{AccessFault}
use Rattle.paged_space.specs.Accesses.{fault_of, or_fault, load_answer, store_answer}

-- an answer with the fault that its trap tells
abbrev pub answered : {T : Type 0} → Result T Trap → Result T AccessFault
answered (Ok v) = Ok v
answered (Err trap) = Err (fault_of trap)

unaligned : {T : Type 0} (p : Option Held → Bool) (m : Contents) (n a : ℕ) (v : T) (o : Option ℕ) → first_fault p m a n ≡ o → answered (unless (access_fault false p m n a) v) ≡ or_fault o v
unaligned p m n a v None e = rw e refl
unaligned p m n a v (Some at) e = rw e refl

pub load_plain : (order : Order) (m : Contents) (n a : ℕ) → answered (loaded order false m n a) ≡ load_answer m order n a
unfolding loaded
load_plain order m n a = unaligned is_mapped m n a (number order n (bytes_from m a n)) (first_fault is_mapped m a n) refl

pub store_plain : (order : Order) (m : Contents) (n a v : ℕ) → answered (stored order false m n a v) ≡ store_answer m order n a v
unfolding stored
store_plain order m n a v = unaligned is_writable m n a (put_all m a (spelled order n v)) (first_fault is_writable m a n) refl
