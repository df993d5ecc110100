-- All that control can do at points of worked programs, with each guarded jump and annul taken both as done and as not done.
use Rattle.std.specs.Prelude.{◌≡◌, ℕ, List, [], ◌∷◌, Some, None}
use Rattle.rtl_core.specs.declared.point.Slot.{Slot}
use Rattle.rtl_core.specs.declared.point.Slot.TheVariants.{Seq, To, Dyn, CallTo, CallDyn, Ret}
use Rattle.points.specs.declared.block.Next.{Next}
use Rattle.points.specs.declared.block.Next.TheVariants.{Goes, Table, Calls, CallsAny, Returns, Couples}
use Rattle.points.specs.Bodies.{code_of, nexts}
use Rattle.points.specs.Courses.{point}
use Rattle.worked_control.specs.WorkedMachine.{note, stop, jump, jump_annul, branch, branch_annul, go, call, call_aim, ret, pad, Program, setting_of}

-- all that control can do at this point of a program
pub record CanDo (p : Program) (pc : ℕ) (slot : Slot) (all : List Next) : Type 0 where
  pub nexts : nexts (code_of (setting_of p) (λ a. p.targets)) (point pc slot) ≡ all

-- on at this point
abbrev on : ℕ → Slot → Next
on pc slot = Goes (point pc slot)

-- a program with each form of jump
abbrev pub each_jump : Program
each_jump = record {
  delay = Some 4;
  ops =
      note 1 ∷ stop ∷ jump 0x1100 ∷ jump_annul 0x1100 ∷ branch 0x1100 ∷ branch_annul 0x1100 ∷ go
      ∷ call 0x1100 ∷ note 1 ∷ call_aim ∷ note 1 ∷ ret ∷ pad ∷ [];
  procedures = [];
  targets = [];
}

-- the same without slots
abbrev pub each_at_once : Program
each_at_once = record each_jump { delay = None }

-- with nothing to come: a jump goes on into its slot, or arrives where it annuls; an annul alone passes the slot over
pub record FromSeq : Type 0 where
  pub note_goes : CanDo each_jump 0x1000 Seq (on 0x1004 Seq ∷ [])
  pub stop_ends : CanDo each_jump 0x1004 Seq []
  pub jump_waits : CanDo each_jump 0x1008 Seq (on 0x100C (To 0x1100) ∷ [])
  pub annulled : CanDo each_jump 0x100C Seq (on 0x1100 Seq ∷ [])
  pub branches : CanDo each_jump 0x1010 Seq (on 0x1014 Seq ∷ on 0x1014 (To 0x1100) ∷ [])
  pub branches_annul : CanDo each_jump 0x1014 Seq (on 0x1018 Seq ∷ on 0x101C Seq ∷ on 0x1018 (To 0x1100) ∷ on 0x1100 Seq ∷ [])
  pub go_waits : CanDo each_jump 0x1018 Seq (on 0x101C (Dyn 0x1018) ∷ [])
  pub call_waits : CanDo each_jump 0x101C Seq (on 0x1020 (CallTo 0x1100 0x1024) ∷ [])
  pub call_aim_waits : CanDo each_jump 0x1024 Seq (on 0x1028 (CallDyn 0x102C) ∷ [])
  pub return_waits : CanDo each_jump 0x102C Seq (on 0x1030 Ret ∷ [])
  pub pad_ends : CanDo each_jump 0x1030 Seq []
  pub no_code : CanDo each_jump 0x1034 Seq []

-- in a slot: what was to come arrives, unless a jump or an annul stands there; those stand in the slot of a plain jump to a
-- constant target alone, and no call, return or computed jump stands there
pub record FromSlot : Type 0 where
  pub plain : CanDo each_jump 0x1000 (To 0x1200) (on 0x1200 Seq ∷ [])
  pub table : CanDo each_jump 0x1000 (Dyn 0x0FFC) (Table 0x0FFC ∷ [])
  pub calls : CanDo each_jump 0x1000 (CallTo 0x1200 0x1300) (Calls 0x1200 0x1300 ∷ [])
  pub calls_any : CanDo each_jump 0x1000 (CallDyn 0x1300) (CallsAny 0x1300 ∷ [])
  pub returns : CanDo each_jump 0x1000 Ret (Returns ∷ [])
  pub stop_ends : CanDo each_jump 0x1004 Ret []
  pub jump_in_plain : CanDo each_jump 0x1008 (To 0x1200) (on 0x1200 (To 0x1100) ∷ [])
  pub annulled_in_plain : CanDo each_jump 0x100C (To 0x1200) (on 0x1100 Seq ∷ [])
  pub branch_in_plain : CanDo each_jump 0x1014 (To 0x1200) (on 0x1200 Seq ∷ on 0x1204 Seq ∷ on 0x1200 (To 0x1100) ∷ on 0x1100 Seq ∷ [])
  pub go_in_plain : CanDo each_jump 0x1018 (To 0x1200) (Couples ∷ [])
  pub call_in_plain : CanDo each_jump 0x101C (To 0x1200) (Couples ∷ [])
  pub call_aim_in_plain : CanDo each_jump 0x1024 (To 0x1200) (Couples ∷ [])
  pub return_in_plain : CanDo each_jump 0x102C (To 0x1200) (Couples ∷ [])
  pub jump_in_call : CanDo each_jump 0x1008 (CallTo 0x1200 0x1300) (Couples ∷ [])
  pub branch_in_return : CanDo each_jump 0x1010 Ret (Returns ∷ Couples ∷ [])
  pub annul_in_table : CanDo each_jump 0x1014 (Dyn 0x0FFC) (Table 0x0FFC ∷ Couples ∷ [])

-- without slots each jump arrives at once, and an annul does nothing
pub record AtOnce : Type 0 where
  pub note_goes : CanDo each_at_once 0x1000 Seq (on 0x1004 Seq ∷ [])
  pub jumps : CanDo each_at_once 0x1008 Seq (on 0x1100 Seq ∷ [])
  pub annulled : CanDo each_at_once 0x100C Seq (on 0x1100 Seq ∷ [])
  pub branches : CanDo each_at_once 0x1010 Seq (on 0x1014 Seq ∷ on 0x1100 Seq ∷ [])
  pub branches_annul : CanDo each_at_once 0x1014 Seq (on 0x1018 Seq ∷ on 0x1100 Seq ∷ [])
  pub goes : CanDo each_at_once 0x1018 Seq (Table 0x1018 ∷ [])
  pub calls : CanDo each_at_once 0x101C Seq (Calls 0x1100 0x1020 ∷ [])
  pub calls_aim : CanDo each_at_once 0x1024 Seq (CallsAny 0x1028 ∷ [])
  pub returns : CanDo each_at_once 0x102C Seq (Returns ∷ [])
