-- Control: where the machine stands, which calls are open, and what the arrival of a jump does.
-- The SPARC Architecture Manual, Version 8, "Delayed Control Transfers", "Call and Link Instruction", "Jump and Link Instruction";
-- System V ABI, SPARC and Intel386 processor supplements, "Function Calling Sequence". The call list and the named stops are this project's own.
use Rattle.std.specs.Prelude.{ℕ, ◌==◌, ◌||◌, Bool, false, if◌then◌else◌, List, [], ◌∷◌, length, Option, Some, None, Result, Ok, Err}
use Rattle.std.specs.List.{list_any}
use Rattle.rtl_core.specs.declared.point.Point.{Point}
use Rattle.rtl_core.specs.declared.point.Slot.{Slot}
use Rattle.rtl_core.specs.declared.point.Slot.TheVariants.{Seq, To, Dyn, CallTo, CallDyn, Ret}
use Rattle.rtl_core.specs.declared.stop.Stop.{Stop}
use Rattle.points.specs.declared.block.Course.{Course}
use Rattle.points.specs.declared.block.Course.TheVariants.{On, Arrives, Couples}
use Rattle.points.specs.declared.block.Member.{Member}
use Rattle.points.specs.declared.block.Member.TheVariants.{Call, Tail}
use Rattle.points.specs.Kinds.{second}
use Rattle.points.specs.Courses.{point}
use Rattle.points.specs.Machine.{Setting}

-- where control is: the point, the target of the last jump that was done, which a computed jump, a computed call or a return asks
-- for where it arrives, and the call list, the latest member first
pub record Control : Type 0 where
  pub point : Point
  pub target : ℕ
  pub calls : List Member

-- what control asks of the whole program: the addresses at which procedures begin, and the targets of each computed plain jump
pub record Flow : Type 0 where
  pub setting : Setting
  pub is_procedure : ℕ → Bool
  pub table : ℕ → List ℕ

-- what a step does with control: it goes on, or stops
abbrev pub Move : Type 0
Move = Result Control Stop

-- how many members the call list may have
abbrev pub most_calls : ℕ
most_calls = 65536

-- control goes on at an address, with nothing to come
abbrev pub at : ℕ → Control → Control
at pc c = record c { point = point pc Seq }

-- a procedure is entered for a member of the call list, where there is room for it
abbrev pub entered : ℕ → Member → Control → Move
entered t member c = if length c.calls == most_calls then Err Stop.CallDepth else Ok (record c { point = point t Seq; calls = member ∷ c.calls })

-- a computed target is entered, where a procedure begins there
abbrev pub entered_any : Flow → Member → Control → Move
entered_any f member c = if f.is_procedure c.target then entered c.target member c else Err (Stop.Undiscovered c.target)

-- a computed plain jump: to a target in its table; without a table it enters a procedure that returns in its place
abbrev pub jumped : Flow → List ℕ → Control → Move
jumped f [] c = entered_any f Tail c
jumped f (t ∷ ts) c = if list_any (λ u. u == c.target) (t ∷ ts) then Ok (at c.target c) else Err (Stop.Undiscovered c.target)

-- the second return point of a return address is this target
abbrev pub is_second : Option ℕ → ℕ → Bool
is_second None target = false
is_second (Some s) target = s == target

-- a target is one of the return points of a return address
abbrev pub is_return_point : Setting → ℕ → ℕ → Bool
is_return_point setting back target = (back == target) || is_second (second setting back) target

-- a return, by the members of the call list: it ends the last open call and all that was entered for it since
abbrev pub returned : Setting → List Member → Control → Move
returned setting [] c = Err (Stop.ReturnMismatch c.target)
returned setting (Tail ∷ calls) c = returned setting calls c
returned setting (Call back ∷ calls) c =
    if is_return_point setting back c.target then Ok (record c { point = point c.target Seq; calls = calls }) else Err (Stop.ReturnMismatch c.target)

-- the arrival of a jump; nothing arrives at Seq
abbrev pub arrived : Flow → Slot → Control → Move
arrived f Seq c = Err (Stop.Couple c.point.pc)
arrived f (To t) c = Ok (at t c)
arrived f (Dyn a) c = jumped f (f.table a) c
arrived f (CallTo t back) c = entered t (Call back) c
arrived f (CallDyn back) c = entered_any f (Call back) c
arrived f Ret c = returned f.setting c.calls c

-- control takes a course
abbrev pub followed : Flow → Course → Control → Move
followed f (On p) c = Ok (record c { point = p })
followed f (Arrives slot) c = arrived f slot c
followed f Couples c = Err (Stop.Couple c.point.pc)

-- a jump that is done leaves its target
abbrev pub kept : Option ℕ → Control → Control
kept None c = c
kept (Some target) c = record c { target = target }
