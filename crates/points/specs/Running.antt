-- The described machine as a run by number of instructions, with all of control.
use Rattle.std.specs.Prelude.{ℕ, Bool, true, false, is_some, Option, Some, None, List, [], ◌++◌, Ok, Err}
use Rattle.lockstep.specs.Runs.{Next, Goes, Ends, after, View, machine_view}
use Rattle.rtl_core.specs.declared.conv.ServiceShape.{ServiceShape}
use Rattle.rtl_core.specs.declared.inst.GroundInst.{GroundInst}
use Rattle.rtl_core.specs.declared.point.Slot.TheVariants.{Seq}
use Rattle.rtl_core.specs.declared.stop.Reply.{Reply}
use Rattle.rtl_core.specs.declared.stop.Stop.{Stop}
use Rattle.rtl_core.specs.Contents.{Contents}
use Rattle.rtl_core.specs.FirstMemory.{first_cells}
use Rattle.rtl_core.specs.Services.{World, Served, asked, answered}
use Rattle.rtl_core.specs.Transfers.{Doing, Ran, Went, Halted, all_transferred, fresh}
use Rattle.points.specs.declared.block.Block.{Block}
use Rattle.points.specs.declared.block.JumpKind.{JumpKind}
use Rattle.points.specs.Machine.{Setting}
use Rattle.points.specs.Kinds.{block_at}
use Rattle.points.specs.Courses.{course, point}
use Rattle.points.specs.Control.{Control, Flow, Move, followed, kept}

-- the state of a run: what the machine holds, where control is, the rest of the input, the output and the break
pub record State : Type 0 where
  pub cells : List ℕ
  pub memory : Contents
  pub saved : List (List ℕ)
  pub control : Control
  pub input : List ℕ
  pub output : List ℕ
  pub heap_end : ℕ

-- what a step leads to
abbrev pub MNext : Type 0
MNext = Next State Stop

-- what an instruction did that matters to control: the target of a jump that was done, and whether it annuls
pub record Did : Type 0 where
  pub inst : GroundInst
  pub kind : JumpKind
  pub jump : Option ℕ
  pub annul : Bool

-- the run stops
abbrev pub stops : Stop → State → MNext
stops stop s = Ends s.output stop

-- control moves, and nothing else changes
abbrev pub moved : Move → State → MNext
moved (Ok c) s = Goes (record s { control = c })
moved (Err stop) s = stops stop s

-- what control does behind an instruction
abbrev pub control_behind : Flow → Did → Control → Move
control_behind f did c = followed f (course f.setting.machine c.point did.inst.next did.kind (is_some did.jump) did.annul) (kept did.jump c)

-- control behind an instruction, in a state
abbrev pub controlled : Flow → Did → State → MNext
controlled f did s = moved (control_behind f did s.control) s

-- the state behind an instruction's transfers
abbrev pub after_transfers : State → Doing → State
after_transfers s d = record s { cells = d.cells; memory = d.memory; saved = d.saved }

-- the world that a service sees
abbrev pub world_of : State → World
world_of s = record { memory = s.memory; input = s.input; heap_end = s.heap_end }

-- the state behind a service, with its answer in the cells
abbrev pub after_service : Setting → ServiceShape → Served → State → State
after_service setting shape done s = record s {
  cells = answered setting.machine.zero shape done.reply s.cells;
  memory = done.world.memory;
  input = done.world.input;
  heap_end = done.world.heap_end;
  output = s.output ++ done.written;
}

-- an exit ends the run, any other answer goes on
abbrev pub unless_exit : Reply → MNext → State → MNext
unless_exit (Reply.Exit x) next s = stops (Stop.Exit x) s
unless_exit (Reply.Value k) next s = next
unless_exit (Reply.Error e) next s = next

-- a service was done, and then control
abbrev pub with_answer : Flow → Did → ServiceShape → Served → State → MNext
with_answer f did shape done s = let t = after_service f.setting shape done s in unless_exit done.reply (controlled f did t) t

-- the service that is due, if one is
abbrev pub service_due : Bool → Option ServiceShape → Option ServiceShape
service_due false shape = None
service_due true shape = shape

-- the service where one is due, and then control
abbrev pub finished : Flow → Did → Option ServiceShape → State → MNext
finished f did None s = controlled f did s
finished f did (Some shape) s = with_answer f did shape (asked f.setting.conv shape s.cells (world_of s)) s

-- behind the transfers: their stop, or the service and control
abbrev pub concluded : Flow → GroundInst → JumpKind → Ran → State → MNext
concluded f inst kind (Halted stop d) s = stops stop s
concluded f inst kind (Went d) s =
    finished f (record { inst = inst; kind = kind; jump = d.jump; annul = d.annul }) (service_due d.service f.setting.conv.service) (after_transfers s d)

-- an instruction's transfers, its service, and then control
abbrev pub performed : Flow → GroundInst → JumpKind → State → MNext
performed f inst kind s = concluded f inst kind (all_transferred f.setting.machine s.control.point.pc inst.transfers (fresh s.cells s.memory s.saved)) s

-- one step from what stands at the point
abbrev pub stepped : Flow → Block → State → MNext
stepped f Block.Outside s = stops (Stop.Undiscovered s.control.point.pc) s
stepped f Block.Illegal s = stops (Stop.Illegal s.control.point.pc) s
stepped f (Block.Inst inst kind) s = performed f inst kind s

-- one instruction
abbrev pub step : Flow → State → MNext
step f s = stepped f (block_at f.setting s.control.point.pc) s

-- control before the first instruction: at the entry, with nothing to come and no open call
abbrev pub first_control : ℕ → Control
first_control entry = record { point = point entry Seq; target = 0; calls = [] }

-- before the first instruction
abbrev pub first_state : Setting → Contents → ℕ → List ℕ → State
first_state setting memory entry input = record {
  cells = first_cells setting.machine setting.conv;
  memory = memory;
  saved = [];
  control = first_control entry;
  input = input;
  output = [];
  heap_end = setting.conv.heap_base;
}

-- what is seen of the run after n instructions
abbrev pub machine_run : Flow → Contents → ℕ → List ℕ → ℕ → View Stop
machine_run f memory entry input n = machine_view (λ s. s.output) (after (step f) n (Goes (first_state f.setting memory entry input)))
