-- The described machine as a run by number of instructions.
use Rattle.std.specs.Prelude.{ℕ, ◌+◌, ◌%◌, ◌^◌, Bool, true, false, Option, Some, None, List, [], ◌++◌}
use Rattle.lockstep.specs.Runs.{Next, Goes, Ends, after, View, machine_view}
use Rattle.rtl_core.specs.declared.conv.Conv.{Conv}
use Rattle.rtl_core.specs.declared.conv.ServiceShape.{ServiceShape}
use Rattle.rtl_core.specs.declared.encodings.Encodings.{Encodings}
use Rattle.rtl_core.specs.declared.frozen.Frozen.{Frozen}
use Rattle.rtl_core.specs.declared.inst.GroundInst.{GroundInst}
use Rattle.rtl_core.specs.declared.machine.Machine.{Machine}
use Rattle.rtl_core.specs.declared.point.Point.{Point}
use Rattle.rtl_core.specs.declared.point.Slot.TheVariants.{Seq}
use Rattle.rtl_core.specs.declared.stop.Reply.{Reply}
use Rattle.rtl_core.specs.declared.stop.Stop.{Stop}
use Rattle.rtl_core.specs.Code.{code_from}
use Rattle.rtl_core.specs.Contents.{Contents}
use Rattle.rtl_core.specs.FirstMemory.{first_cells}
use Rattle.rtl_core.specs.Grounding.{grounded}
use Rattle.rtl_core.specs.Matching.{Taken, instruction}
use Rattle.rtl_core.specs.Services.{World, Served, asked, answered}
use Rattle.rtl_core.specs.Transfers.{Doing, Ran, Went, Halted, all_transferred, fresh}
use Rattle.points.specs.declared.block.Standing.{Standing}
use Rattle.points.specs.declared.block.Standing.TheVariants.{Outside, Illegal, Stands}

-- what stays the same in a run: the descriptions, and the bytes that no store changes
pub record Setting : Type 0 where
  pub encodings : Encodings
  pub machine : Machine
  pub conv : Conv
  pub frozen : Frozen

-- the state of a run: what the machine holds, the point, the target of a jump that is still to come,
-- the return addresses of the open calls, the rest of the input, the output and the break
pub record State : Type 0 where
  pub cells : List ℕ
  pub memory : Contents
  pub saved : List (List ℕ)
  pub point : Point
  pub target : ℕ
  pub calls : List ℕ
  pub input : List ℕ
  pub output : List ℕ
  pub heap_end : ℕ

-- what a step leads to
abbrev pub MNext : Type 0
MNext = Next State Stop

-- what an instruction did that matters to control
pub record Did : Type 0 where
  pub inst : GroundInst
  pub jump : Option ℕ
  pub annul : Bool

-- the run stops
abbrev pub stops : State → Stop → MNext
stops s stop = Ends s.output stop

-- the run goes on at an address, with no jump to come
abbrev pub at_address : State → ℕ → State
at_address s pc = record s { point = record { pc = pc; slot = Seq } }

-- control without jumps: an instruction that neither jumps nor annuls goes on behind itself
abbrev pub controlled : Setting → Did → State → MNext
controlled setting did s = by did.jump did.annul
  where
    by : Option ℕ → Bool → MNext
    by None false = Goes (at_address s did.inst.next)
    by _ _ = stops s (Stop.Couple s.point.pc)

-- the state behind an instruction's transfers
abbrev pub after_transfers : State → Doing → State
after_transfers s d = record s { cells = d.cells; memory = d.memory; saved = d.saved }

-- the world that a service sees
abbrev pub world_of : State → World
world_of s = record { memory = s.memory; input = s.input; heap_end = s.heap_end }

-- the state behind a service, with its answer in the cells
abbrev pub after_service : Setting → ServiceShape → Served → State → State
after_service setting shape done s = record s {
  cells = answered setting.machine.zero shape done.reply s.cells;
  memory = done.world.memory;
  input = done.world.input;
  heap_end = done.world.heap_end;
  output = s.output ++ done.written;
}

-- an exit ends the run, any other answer goes on
abbrev pub unless_exit : State → Reply → MNext → MNext
unless_exit s (Reply.Exit x) next = stops s (Stop.Exit x)
unless_exit s (Reply.Value k) next = next
unless_exit s (Reply.Error e) next = next

-- a service, and then control
abbrev pub with_answer : Setting → Did → ServiceShape → Served → State → MNext
with_answer setting did shape done s = unless_exit s done.reply (controlled setting did (after_service setting shape done s))

-- the service where one is due, and then control
abbrev pub finished : Setting → Did → Bool → Option ServiceShape → State → MNext
finished setting did true (Some shape) s = with_answer setting did shape (asked setting.conv shape s.cells (world_of s)) s
finished setting did _ _ s = controlled setting did s

-- behind the transfers: their stop, or the service and control
abbrev pub concluded : Setting → GroundInst → State → Ran → MNext
concluded setting inst s (Halted stop d) = stops s stop
concluded setting inst s (Went d) = finished setting (record { inst = inst; jump = d.jump; annul = d.annul }) d.service setting.conv.service (after_transfers s d)

-- an instruction's transfers, its service, and then control
abbrev pub performed : Setting → GroundInst → State → MNext
performed setting inst s = concluded setting inst s (all_transferred setting.machine s.point.pc inst.transfers (fresh s.cells s.memory s.saved))

-- the instruction that was matched at an address, with all put in
abbrev pub matched : Machine → ℕ → Taken → Option GroundInst
matched m pc t = grounded m (record { constructor = t.constructor; leaves = t.leaves }) pc ((pc + t.len) % 2 ^ 32)

-- an instruction with all put in, where there is one
abbrev pub ground_standing : Option GroundInst → Standing
ground_standing None = Illegal
ground_standing (Some inst) = Stands inst

-- the instruction that was matched at an address, where one was
abbrev pub match_standing : Machine → ℕ → Option Taken → Standing
match_standing m pc None = Illegal
match_standing m pc (Some t) = ground_standing (matched m pc t)

-- the instruction at the front of the code from an address on, where it is code
abbrev pub code_standing : Setting → ℕ → Option (List ℕ) → Standing
code_standing setting pc None = Outside
code_standing setting pc (Some bytes) = match_standing setting.machine pc (instruction setting.encodings bytes)

-- what stands at an address
abbrev pub standing : Setting → ℕ → Standing
standing setting pc = code_standing setting pc (code_from setting.frozen pc)

-- one step from what stands at the point
abbrev pub stepped : Setting → State → Standing → MNext
stepped setting s Outside = stops s (Stop.Undiscovered s.point.pc)
stepped setting s Illegal = stops s (Stop.Illegal s.point.pc)
stepped setting s (Stands inst) = performed setting inst s

-- one instruction
abbrev pub step : Setting → State → MNext
step setting s = stepped setting s (standing setting s.point.pc)

-- before the first instruction
abbrev pub first_state : Setting → Contents → ℕ → List ℕ → State
first_state setting memory entry input = record {
  cells = first_cells setting.machine setting.conv;
  memory = memory;
  saved = [];
  point = record { pc = entry; slot = Seq };
  target = 0;
  calls = [];
  input = input;
  output = [];
  heap_end = setting.conv.heap_base;
}

-- what is seen of the run after n instructions
abbrev pub machine_run : Setting → Contents → ℕ → List ℕ → ℕ → View Stop
machine_run setting memory entry input n = machine_view (λ s. s.output) (after (step setting) n (Goes (first_state setting memory entry input)))
