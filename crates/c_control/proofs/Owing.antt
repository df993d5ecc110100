-- What may be owed behind a step: what was owed before, and at most one tail jump more.
use Rattle.std.proofs.Common.{◌≡◌, ℕ, ◌+◌, ◌≤◌, Bool, true, false, List, [], ◌∷◌, length, Option, Some, None, refl, ap, arith, nat_eq}
use Rattle.std.specs.Prelude.{◌==◌, if◌then◌else◌, is_some, Ok, Err}
use Rattle.std.specs.List.{list_any}
use Rattle.rtl_core.specs.declared.conv.ServiceShape.{ServiceShape}
use Rattle.rtl_core.specs.declared.inst.GroundInst.{GroundInst}
use Rattle.rtl_core.specs.declared.point.Slot.{Slot}
use Rattle.rtl_core.specs.declared.point.Slot.TheVariants.{Seq, To, Dyn, CallTo, CallDyn, Ret}
use Rattle.rtl_core.specs.declared.stop.Reply.{Reply}
use Rattle.rtl_core.specs.declared.stop.Stop.{Stop}
use Rattle.rtl_core.specs.Services.{Served, asked}
use Rattle.rtl_core.specs.Transfers.{Ran, Went, Halted}
use Rattle.points.specs.declared.block.Course.{Course}
use Rattle.points.specs.declared.block.Course.TheVariants.{On, Arrives as Arriving, Couples}
use Rattle.points.specs.declared.block.JumpKind.{JumpKind}
use Rattle.points.specs.declared.block.Member.{Member}
use Rattle.points.specs.declared.block.Member.TheVariants.{Call, Tail}
use Rattle.points.specs.Control.{Control, Move, most_calls, at, entered, entered_any, jumped, is_return_point, returned, arrived, followed, kept}
use Rattle.points.specs.Courses.{course, point}
use Rattle.points.specs.Machine.{Setting}
use Rattle.points.specs.Running.{State, Did, moved, controlled, after_service, after_transfers, unless_exit, with_answer, service_due, finished, concluded, world_of}
use Rattle.c_control.specs.Plans.{Plan}
use Rattle.c_control.proofs.Frames.{Emission, cost, owed}
use Rattle.c_control.proofs.Arrivals.{next_owed}

module _ (g : Emission) where
  abbrev plan : Plan
  plan = g.plan

  abbrev setting : Setting
  setting = plan.flow.setting

  -- what is owed where control goes on
  abbrev move_owed : Move → ℕ
  move_owed (Ok c) = owed g c.calls
  move_owed (Err stop) = 0

  abbrev Owes : Control → Move → Type 0
  Owes c move = move_owed move ≤ cost g + owed g c.calls

  enters : (t : ℕ) (member : Member) (c : Control) → Owes c (entered t member c)
  enters t member c = by member (nat_eq (length c.calls) most_calls)
    where
      by : (member : Member) (b : Bool) → move_owed (if b then Err Stop.CallDepth else Ok (record c { point = point t Seq; calls = member ∷ c.calls })) ≤ cost g + owed g c.calls
      by member true = omega arith
      by (Call back) false = omega arith
      by Tail false = omega arith

  enters-any : (member : Member) (c : Control) → Owes c (entered_any plan.flow member c)
  enters-any member c = by (plan.flow.is_procedure c.target)
    where
      by : (b : Bool) → move_owed (if b then entered c.target member c else Err (Stop.Undiscovered c.target)) ≤ cost g + owed g c.calls
      by true = enters c.target member c
      by false = omega arith

  jumps : (ts : List ℕ) (c : Control) → Owes c (jumped plan.flow ts c)
  jumps [] c = enters-any Tail c
  jumps (t ∷ ts) c = by (list_any (λ u. u == c.target) (t ∷ ts))
    where
      by : (b : Bool) → move_owed (if b then Ok (at c.target c) else Err (Stop.Undiscovered c.target)) ≤ cost g + owed g c.calls
      by true = omega arith
      by false = omega arith

  returns : (calls : List Member) (c : Control) → move_owed (returned setting calls c) ≤ owed g calls
  returns [] c = omega arith
  returns (Tail ∷ calls) c = omega (arith, returns calls c)
  returns (Call back ∷ calls) c = by (is_return_point setting back c.target)
    where
      by : (b : Bool) → move_owed (if b then Ok (record c { point = point c.target Seq; calls = calls }) else Err (Stop.ReturnMismatch c.target)) ≤ owed g (Call back ∷ calls)
      by true = omega arith
      by false = omega arith

  arrives : (slot : Slot) (c : Control) → Owes c (arrived plan.flow slot c)
  arrives Seq c = omega arith
  arrives (To t) c = omega arith
  arrives (Dyn a) c = jumps (plan.flow.table a) c
  arrives (CallTo t back) c = enters t (Call back) c
  arrives (CallDyn back) c = enters-any (Call back) c
  arrives Ret c = omega (arith, returns c.calls c)

  follows : (course : Course) (c : Control) → Owes c (followed plan.flow course c)
  follows (On p) c = omega arith
  follows (Arriving slot) c = arrives slot c
  follows Couples c = omega arith

  moves : (move : Move) (s : State) → next_owed g (moved move s) ≡ move_owed move
  moves (Ok c) s = refl
  moves (Err stop) s = refl

  kept-calls : (jump : Option ℕ) (c : Control) → (kept jump c).calls ≡ c.calls
  kept-calls None c = refl
  kept-calls (Some target) c = refl

  controls : (did : Did) (s : State) → next_owed g (controlled plan.flow did s) ≤ cost g + owed g s.control.calls
  controls did s =
      let c = s.control in
      let way = course setting.machine c.point did.inst.next did.kind (is_some did.jump) did.annul in
      let same = moves (followed plan.flow way (kept did.jump c)) s in
      let owe = follows way (kept did.jump c) in
      let calls = ap (owed g) (kept-calls did.jump c) in
      omega (arith, same, owe, calls)

  finishes : (did : Did) (shape : Option ServiceShape) (s : State) → next_owed g (finished plan.flow did shape s) ≤ cost g + owed g s.control.calls
  finishes did None s = controls did s
  finishes did (Some shape) s = by (asked setting.conv shape s.cells (world_of s))
    where
      by : (done : Served) → next_owed g (with_answer plan.flow did shape done s) ≤ cost g + owed g s.control.calls
      by done = answered done.reply
        where
          after : State
          after = after_service setting shape done s

          answered : (reply : Reply) → next_owed g (unless_exit reply (controlled plan.flow did (after_service setting shape done s)) (after_service setting shape done s)) ≤ cost g + owed g s.control.calls
          answered (Reply.Exit x) = omega arith
          answered (Reply.Value k) = controls did (after_service setting shape done s)
          answered (Reply.Error e) = controls did (after_service setting shape done s)

  pub concludes : (inst : GroundInst) (kind : JumpKind) (ran : Ran) (s : State) → next_owed g (concluded plan.flow inst kind ran s) ≤ cost g + owed g s.control.calls
  concludes inst kind (Halted stop d) s = omega arith
  concludes inst kind (Went d) s = finishes (record { inst = inst; kind = kind; jump = d.jump; annul = d.annul }) (service_due d.service setting.conv.service) (after_transfers s d)
