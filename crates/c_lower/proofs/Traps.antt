-- A fault of memory is the same stop on both sides.
use Rattle.std.proofs.Common.{◌≡◌, ℕ, Bool, true, false, Option, Some, None, Result, Ok, Err, refl}
use Rattle.rtl_core.specs.declared.expr.Order.{Order}
use Rattle.rtl_core.specs.declared.stop.Trap.{Trap}
use Rattle.rtl_core.specs.Access.{access_fault, is_misaligned, unless, loaded, stored, number, spelled}
use Rattle.rtl_core.specs.Contents.{Contents, Held, is_mapped, is_writable, first_fault, bytes_from, put_all}
use Rattle.rtl_core.specs.Transfers.{stop_of}
use Rattle.c_lang.specs.Step.{memory_stop}

-- the stop of a trap of memory is that of the instruction's trap
abbrev pub FaultsAlike : ℕ → Option Trap → Type 0
FaultsAlike pc None = Unit {0}
FaultsAlike pc (Some trap) = memory_stop trap ≡ stop_of pc trap

abbrev pub StopsAlike : {A : Type 0} → ℕ → Result A Trap → Type 0
StopsAlike pc (Ok x) = Unit {0}
StopsAlike pc (Err trap) = memory_stop trap ≡ stop_of pc trap

fault_alike : (pc : ℕ) (align : Bool) (passes : Option Held → Bool) (m : Contents) (n a : ℕ)
    → FaultsAlike pc (access_fault align passes m n a)
fault_alike pc align passes m n a = by (is_misaligned align n a) (first_fault passes m a n) refl refl
  where
    by : (t : Bool) (o : Option ℕ) → is_misaligned align n a ≡ t → first_fault passes m a n ≡ o
        → FaultsAlike pc (access_fault align passes m n a)
    by true o e f = rw e refl
    by false None e f = rw (e, f) tt
    by false (Some at) e f = rw (e, f) refl

unless_alike : {A : Type 0} (pc : ℕ) (o : Option Trap) (x : A) → FaultsAlike pc o → StopsAlike pc (unless o x)
unless_alike pc None x h = tt
unless_alike pc (Some trap) x h = h

pub load_alike : (pc : ℕ) (order : Order) (align : Bool) (m : Contents) (n a : ℕ)
    → StopsAlike pc (loaded order align m n a)
unfolding loaded
load_alike pc order align m n a =
    unless_alike pc (access_fault align is_mapped m n a) (number order n (bytes_from m a n))
    (fault_alike pc align is_mapped m n a)

pub store_alike : (pc : ℕ) (order : Order) (align : Bool) (m : Contents) (n a v : ℕ)
    → StopsAlike pc (stored order align m n a v)
unfolding stored
store_alike pc order align m n a v =
    unless_alike pc (access_fault align is_writable m n a) (put_all m a (spelled order n v))
    (fault_alike pc align is_writable m n a)
