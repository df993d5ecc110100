-- Where a step leads once its transfers and its service are done, and so what can come behind a point.
-- The SPARC Architecture Manual, Version 8, "Delayed Control Transfers", "Branch on Integer Condition Codes Instructions".
use Rattle.std.specs.Prelude.{ℕ, ◌&&◌, ◌||◌, Bool, true, false, not, is_some, if◌then◌else◌, List, [], ◌∷◌, ◌++◌, Option, Some, None}
use Rattle.std.specs.List.{list_any}
use Rattle.rtl_core.specs.declared.inst.GroundInst.{GroundInst}
use Rattle.rtl_core.specs.declared.machine.Machine.{Machine}
use Rattle.rtl_core.specs.declared.point.Point.{Point}
use Rattle.rtl_core.specs.declared.point.Slot.{Slot}
use Rattle.rtl_core.specs.declared.point.Slot.TheVariants.{Seq, To, Dyn, CallTo, CallDyn, Ret}
use Rattle.rtl_core.specs.declared.transfer.Act.{Act}
use Rattle.rtl_core.specs.declared.transfer.Act.TheVariants.{Trap}
use Rattle.rtl_core.specs.declared.transfer.Transfer.{Transfer}
use Rattle.rtl_core.specs.SoundTerms.{is_jump, is_annul}
use Rattle.points.specs.declared.block.Block.{Block}
use Rattle.points.specs.declared.block.Course.{Course}
use Rattle.points.specs.declared.block.Course.TheVariants.{On, Arrives, Couples}
use Rattle.points.specs.declared.block.JumpKind.{JumpKind}
use Rattle.points.specs.declared.block.Mode.{Mode}
use Rattle.points.specs.declared.block.Mode.TheVariants.{Never, Maybe, Always}
use Rattle.points.specs.declared.block.Next.{Next}
use Rattle.points.specs.contracts.block.NextPartialEq.TheImpl as next_equality
use Rattle.points.specs.Kinds.{further, past_slot}

abbrev pub point : ℕ → Slot → Point
point pc slot = record { pc = pc; slot = slot }

-- ---- where a step leads

-- on at an address, with nothing to come
abbrev pub on_at : ℕ → Course
on_at pc = On (point pc Seq)

-- the jump that is still to come behind a jump at an address
abbrev pub pending : ℕ → JumpKind → Slot
pending pc JumpKind.Never = Seq
pending pc (JumpKind.To t) = To t
pending pc JumpKind.Dyn = Dyn pc
pending pc (JumpKind.CallTo t back) = CallTo t back
pending pc (JumpKind.CallDyn back) = CallDyn back
pending pc JumpKind.Ret = Ret

-- nothing is to come, on a machine without delay: a jump is done at once, and an annul does nothing
abbrev pub undelayed_course : (next : ℕ) → Slot → (jumps : Bool) → Course
undelayed_course next slot false = on_at next
undelayed_course next slot true = Arrives slot

-- nothing is to come, on a machine with delay: a jump waits for the instruction in its slot, which an annul passes over
abbrev pub delayed_course : (delay next : ℕ) → Slot → (jumps annuls : Bool) → Course
delayed_course delay next slot false false = on_at next
delayed_course delay next slot false true = on_at (further next delay)
delayed_course delay next slot true false = On (point next slot)
delayed_course delay next slot true true = Arrives slot

-- nothing is to come
abbrev pub course_from_seq : Option ℕ → (next : ℕ) → Slot → (jumps annuls : Bool) → Course
course_from_seq None next slot jumps annuls = undelayed_course next slot jumps
course_from_seq (Some delay) next slot jumps annuls = delayed_course delay next slot jumps annuls

-- without a jump in the slot of a plain jump to t: there, or behind the instruction there
abbrev pub course_to : Option ℕ → (t : ℕ) → (annuls : Bool) → Course
course_to delay t false = on_at t
course_to delay t true = on_at (past_slot delay t)

-- in the slot of a plain jump to t stands another to u: the instruction at t is done, and then that at u, unless it is annulled
abbrev pub course_to_both : Option ℕ → (t u : ℕ) → (jumps annuls : Bool) → Course
course_to_both delay t u false annuls = course_to delay t annuls
course_to_both delay t u true false = On (point t (To u))
course_to_both delay t u true true = on_at u

-- in the slot of a plain jump to t no other jump may stand
abbrev pub course_to_one : Option ℕ → (t : ℕ) → (jumps annuls : Bool) → Course
course_to_one delay t false annuls = course_to delay t annuls
course_to_one delay t true annuls = Couples

-- in the slot of a plain jump with a constant target
abbrev pub course_from_jump : Option ℕ → (t : ℕ) → JumpKind → (jumps annuls : Bool) → Course
course_from_jump delay t (JumpKind.To u) jumps annuls = course_to_both delay t u jumps annuls
course_from_jump delay t _ jumps annuls = course_to_one delay t jumps annuls

-- in any other slot neither a jump nor an annul may stand
abbrev pub course_from_slot : Slot → (jumps annuls : Bool) → Course
course_from_slot slot jumps annuls = if jumps || annuls then Couples else Arrives slot

-- where the instruction at a point leads, by whether it jumps and whether it annuls
abbrev pub course_by : Machine → (pc : ℕ) → Slot → (next : ℕ) → JumpKind → (jumps annuls : Bool) → Course
course_by m pc Seq next kind jumps annuls = course_from_seq m.delay next (pending pc kind) jumps annuls
course_by m pc (To t) next kind jumps annuls = course_from_jump m.delay t kind jumps annuls
course_by m pc slot next kind jumps annuls = course_from_slot slot jumps annuls

-- the same at a point
abbrev pub course : Machine → Point → (next : ℕ) → JumpKind → (jumps annuls : Bool) → Course
course m p next kind jumps annuls = course_by m p.pc p.slot next kind jumps annuls

-- ---- what can come behind a point

-- a transfer without a guard that does such an act
abbrev pub does_always : (Act → Bool) → Transfer → Bool
does_always kind t = not (is_some t.guard) && kind t.act

-- whether transfers do such an act: never, where a guard holds, or each time
abbrev pub mode_of : (Act → Bool) → List Transfer → Mode
mode_of kind ts = if list_any (does_always kind) ts then Always else if list_any (λ t. kind t.act) ts then Maybe else Never

abbrev pub jump_mode : List Transfer → Mode
jump_mode ts = mode_of is_jump ts

abbrev pub annul_mode : List Transfer → Mode
annul_mode ts = mode_of is_annul ts

-- whether what is done in this mode can come out so
abbrev pub possible : Mode → Bool → Bool
possible Never true = false
possible Never false = true
possible Maybe done = true
possible Always true = true
possible Always false = false

abbrev pub is_trap : Act → Bool
is_trap (Trap e) = true
is_trap _ = false

-- an instruction with a trap that has no guard: nothing comes behind it
abbrev pub halts : List Transfer → Bool
halts ts = list_any (does_always is_trap) ts

-- what comes where a jump arrives; nothing arrives at Seq
abbrev pub arrival_next : Slot → Next
arrival_next Seq = Next.Couples
arrival_next (To t) = Next.Goes (point t Seq)
arrival_next (Dyn a) = Next.Table a
arrival_next (CallTo t back) = Next.Calls t back
arrival_next (CallDyn back) = Next.CallsAny back
arrival_next Ret = Next.Returns

abbrev pub course_next : Course → Next
course_next (On p) = Next.Goes p
course_next (Arrives slot) = arrival_next slot
course_next Couples = Next.Couples

-- what comes where a jump and an annul are done or not, where they can come out so
abbrev pub next_if : Bool → Course → List Next
next_if false c = []
next_if true c = course_next c ∷ []

-- what can come behind the instruction at a point, for each way in which its jump and its annul can come out
abbrev pub nexts_of : Machine → Point → GroundInst → JumpKind → Mode → Mode → List Next
nexts_of m p inst kind jumps annuls =
    next_if (possible jumps false && possible annuls false) (course m p inst.next kind false false)
    ++ next_if (possible jumps false && possible annuls true) (course m p inst.next kind false true)
    ++ next_if (possible jumps true && possible annuls false) (course m p inst.next kind true false)
    ++ next_if (possible jumps true && possible annuls true) (course m p inst.next kind true true)

-- all of some but those that are this one
abbrev pub all_but : Next → List Next → List Next
all_but n [] = []
all_but n (o ∷ os) = if next_equality.eq-value.it n o then all_but n os else o ∷ all_but n os

-- each of some once, where it first stands
abbrev pub once : List Next → List Next
once [] = []
once (n ∷ ns) = n ∷ all_but n (once ns)

-- all that control can do at a point with this block
abbrev pub after : Machine → Point → Block → List Next
after m p Block.Outside = []
after m p Block.Illegal = []
after m p (Block.Inst inst kind) = if halts inst.transfers then [] else once (nexts_of m p inst kind (jump_mode inst.transfers) (annul_mode inst.transfers))
