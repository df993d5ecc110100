-- What stands in front of control, and the jump of an instruction.
use Rattle.std.specs.Prelude.{◌≡◌, ℕ, true, false, List, [], ◌∷◌, Some}
use Rattle.rtl_core.specs.declared.point.Slot.{Slot}
use Rattle.rtl_core.specs.declared.point.Slot.TheVariants.{Seq}
use Rattle.points.specs.declared.block.JumpKind.{JumpKind}
use Rattle.points.specs.declared.block.JumpKind.TheVariants.{Dyn, CallDyn, Ret}
use Rattle.points.specs.declared.block.Mode.{Mode}
use Rattle.points.specs.declared.block.Mode.TheVariants.{Never, Always}
use Rattle.points.specs.Kinds.{past_slot}
use Rattle.points.specs.Courses.{point, pending}
use Rattle.c_lang.specs.declared.tree.CExpr.TheVariants.{Num}
use Rattle.c_lang.specs.declared.tree.Stmt.{Stmt}
use Rattle.c_lang.specs.declared.tree.Stmt.TheVariants.{Set}
use Rattle.c_lang.specs.declared.tree.Var.TheVariants.{Pt}
use Rattle.c_control.specs.Plans.{Plan}
use Rattle.c_control.specs.Pieces.{couple_stop, jump_target_c, jumped_c, flags_c, stop_if}
use Rattle.c_control.specs.Blocks.{annul_for, can_arrive}
use Rattle.c_program.specs.declared.control.Jump.{Jump}
use Rattle.c_program.specs.declared.control.Step.{Step}
use Rattle.c_program.specs.declared.sources.Sources.{Sources}
use Rattle.c_program.specs.Shown.{IsKnown}

-- the target of a jump is kept where its arrival asks for it
abbrev pub kept_target : JumpKind → List Stmt
kept_target Dyn = Set Pt jump_target_c ∷ []
kept_target (CallDyn back) = Set Pt jump_target_c ∷ []
kept_target Ret = Set Pt jump_target_c ∷ []
kept_target kind = []

-- the stop of a jump in the slot of another
abbrev pub jump_couples : (pc : ℕ) → Mode → List Stmt
jump_couples pc Never = []
jump_couples pc jump = stop_if jumped_c couple_stop (Num pc) []

-- the stop of a jump or an annul there
abbrev pub any_couples : (pc : ℕ) → Mode → Mode → List Stmt
any_couples pc Never Never = []
any_couples pc jump annul = stop_if flags_c couple_stop (Num pc) []

-- the jump of an instruction on a machine without delay: it arrives at once
abbrev pub undelayed_jump : Step → Slot → Jump
undelayed_jump step slot = record {
  pc = step.point.pc;
  delayed = false;
  ways = record { jump = step.jump; annul = Always; stays = point step.next Seq; jumps = point step.next Seq; annuls = point step.next Seq };
  slot = slot;
}

-- the jump of an instruction on a machine with delay
abbrev pub delayed_jump : Step → Slot → ℕ → Jump
delayed_jump step slot delay = record {
  pc = step.point.pc;
  delayed = true;
  ways = record { jump = step.jump; annul = step.annul; stays = point step.next Seq; jumps = point step.next slot; annuls = point (past_slot (Some delay) step.next) Seq };
  slot = slot;
}

-- the data know the arrival that is to come at an instruction, and, with nothing to come, the arrival that it can make at once
pub record IsKnownStep (plan : Plan) (on : Sources) (step : Step) : Type 0 where
  pub slot : IsKnown plan on step.point.slot
  pub pending : step.point.slot ≡ Seq → can_arrive step.jump (annul_for on.machine.now.delay step.annul) ≡ true → IsKnown plan on (pending step.point.pc step.kind)
