-- What control can do at points of the worked programs, computed.
use Rattle.std.proofs.Common.{◌≡◌, ℕ, List, refl, ap, ◌∙◌}
use Rattle.rtl_core.specs.declared.point.Slot.{Slot}
use Rattle.rtl_core.specs.Code.{code_from}
use Rattle.rtl_core.specs.Matching.{type_taken}
use Rattle.points.specs.declared.block.Next.{Next}
use Rattle.points.specs.Courses.{after, point}
use Rattle.worked_control.specs.WorkedMachine.{entry, machine, Program, flow_of}
use Rattle.worked_control.specs.WorkedPoints.{CanDo, each_jump, each_at_once, FromSeq, FromSlot, AtOnce}
use Rattle.worked_control.proofs.Computed.{block-is, block_seen, op_at}
use Rattle.worked_control.proofs.Placed.{placed}
use Rattle.worked_control.proofs.WorkedRuns.{Stands}

-- all that control can do at a point, by the instruction that the program's list has there
abbrev seen : Program → ℕ → Slot → List Next
seen p pc slot =
    let f = flow_of p in
    after (machine p.delay) (point pc slot) (block_seen p f.is_procedure f.table (op_at p f.is_procedure f.table pc) pc)

can-do : (p : Program) (pc : ℕ) (slot : Slot) (all : List Next) → Stands p → seen p pc slot ≡ all → CanDo p pc slot all
can-do p pc slot all stands e =
    let f = flow_of p in
    record { nexts = ap (after (machine p.delay) (point pc slot)) (block-is p f.is_procedure f.table (placed p entry p.ops stands.0 stands.1) pc) ∙ e }

jumps-stand : Stands each_jump
unfolding code_from type_taken
jumps-stand = (refl, refl)

at-once-stand : Stands each_at_once
unfolding code_from type_taken
at-once-stand = (refl, refl)

pub from_seq : FromSeq
unfolding code_from
from_seq = record {
  note_goes = can-do _ _ _ _ jumps-stand refl;
  stop_ends = can-do _ _ _ _ jumps-stand refl;
  jump_waits = can-do _ _ _ _ jumps-stand refl;
  annulled = can-do _ _ _ _ jumps-stand refl;
  branches = can-do _ _ _ _ jumps-stand refl;
  branches_annul = can-do _ _ _ _ jumps-stand refl;
  go_waits = can-do _ _ _ _ jumps-stand refl;
  call_waits = can-do _ _ _ _ jumps-stand refl;
  call_aim_waits = can-do _ _ _ _ jumps-stand refl;
  return_waits = can-do _ _ _ _ jumps-stand refl;
  pad_ends = can-do _ _ _ _ jumps-stand refl;
  no_code = can-do _ _ _ _ jumps-stand refl;
}

pub from_slot : FromSlot
from_slot = record {
  plain = can-do _ _ _ _ jumps-stand refl;
  table = can-do _ _ _ _ jumps-stand refl;
  calls = can-do _ _ _ _ jumps-stand refl;
  calls_any = can-do _ _ _ _ jumps-stand refl;
  returns = can-do _ _ _ _ jumps-stand refl;
  stop_ends = can-do _ _ _ _ jumps-stand refl;
  jump_in_plain = can-do _ _ _ _ jumps-stand refl;
  annulled_in_plain = can-do _ _ _ _ jumps-stand refl;
  branch_in_plain = can-do _ _ _ _ jumps-stand refl;
  go_in_plain = can-do _ _ _ _ jumps-stand refl;
  call_in_plain = can-do _ _ _ _ jumps-stand refl;
  call_aim_in_plain = can-do _ _ _ _ jumps-stand refl;
  return_in_plain = can-do _ _ _ _ jumps-stand refl;
  jump_in_call = can-do _ _ _ _ jumps-stand refl;
  branch_in_return = can-do _ _ _ _ jumps-stand refl;
  annul_in_table = can-do _ _ _ _ jumps-stand refl;
}

pub at_once : AtOnce
at_once = record {
  note_goes = can-do _ _ _ _ at-once-stand refl;
  jumps = can-do _ _ _ _ at-once-stand refl;
  annulled = can-do _ _ _ _ at-once-stand refl;
  branches = can-do _ _ _ _ at-once-stand refl;
  branches_annul = can-do _ _ _ _ at-once-stand refl;
  goes = can-do _ _ _ _ at-once-stand refl;
  calls = can-do _ _ _ _ at-once-stand refl;
  calls_aim = can-do _ _ _ _ at-once-stand refl;
  returns = can-do _ _ _ _ at-once-stand refl;
}
