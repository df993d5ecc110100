-- The C text of a program: when it is one of a plan, and when it is the same as the machine.
use Rattle.std.specs.Prelude.{◌≡◌, ◌≢◌, ℕ, ◌+◌, ◌*◌, ◌^◌, ◌<◌, ◌≤◌, Bool, true, false, is_some, IsTrue, List, length, map, slice_get, slice_index, Option, Some, None}
use Rattle.std.specs.List.{All, Contains}
use Rattle.lockstep.specs.Runs.{Same}
use Rattle.rtl_core.specs.declared.conv.Conv.{Conv}
use Rattle.rtl_core.specs.declared.conv.Numbers.{Numbers}
use Rattle.rtl_core.specs.declared.conv.ServiceShape.{ServiceShape}
use Rattle.rtl_core.specs.declared.inst.GroundInst.{GroundInst}
use Rattle.rtl_core.specs.declared.machine.Machine.{Machine}
use Rattle.rtl_core.specs.declared.point.Point.{Point}
use Rattle.rtl_core.specs.declared.point.Slot.TheVariants.{Seq}
use Rattle.rtl_core.specs.FirstMemory.{Part, Block, IsInStack, first_cells, first_memory}
use Rattle.rtl_core.specs.Services.{numbers_of}
use Rattle.rtl_core.specs.SoundConv.{AreSoundTogether}
use Rattle.points.specs.declared.block.Block.TheVariants.{Inst}
use Rattle.points.specs.declared.block.JumpKind.{JumpKind}
use Rattle.points.specs.Kinds.{block_at, second}
use Rattle.points.specs.Courses.{point}
use Rattle.points.specs.Control.{Flow}
use Rattle.points.specs.Bodies.{code_of, Body, Procedure}
use Rattle.points.specs.Running.{machine_run}
use Rattle.points.specs.Summaries.{Summarized, IsCallee, block_names, block_assigns}
use Rattle.c_lang.specs.declared.tree.CBlock.{CBlock}
use Rattle.c_lang.specs.declared.tree.CSeg.{CSeg}
use Rattle.c_lang.specs.declared.tree.Header.{Header}
use Rattle.c_lang.specs.declared.tree.Program.{Program}
use Rattle.c_lang.specs.Run.{c_run}
use Rattle.c_lang.specs.State.{At, has}
use Rattle.c_lang.specs.Step.{Found, function_from, first_place, block_of}
use Rattle.c_lower.specs.Accounts.{lowered_need}
use Rattle.c_control.specs.Blocks.{block_c, code_at, further_c}
use Rattle.c_control.specs.Choice.{leaf_of, levels}
use Rattle.c_control.specs.Plans.{Plan}

-- ---- the header and the segments

-- the header of a machine and its conventions, with these numbers of services
abbrev pub header_with : Machine → Conv → Numbers → Bool → Header
header_with m conv n carry = record {
  order = m.order;
  align = m.align;
  heap_base = conv.heap_base;
  heap_size = conv.heap_size;
  stack_base = conv.stack_base;
  stack_size = conv.stack_size;
  exit = n.exit;
  read = n.read;
  write = n.write;
  brk = n.brk;
  fault = n.fault;
  descriptor = n.descriptor;
  unknown = n.unknown;
  carry = carry;
}

-- the numbers of conventions without services
abbrev pub no_numbers : Conv → Numbers
no_numbers conv = record { exit = 0; read = 0; write = 0; brk = 0; fault = 0; descriptor = 0; unknown = 0; heap_base = conv.heap_base; heap_size = conv.heap_size }

-- the header of a machine and its conventions; an error's number is carried as it is beside an error cell
abbrev pub header_for : Machine → Conv → Option ServiceShape → Header
header_for m conv None = header_with m conv (no_numbers conv) false
header_for m conv (Some s) = header_with m conv (numbers_of conv s) (is_some s.error)

abbrev pub header_of : Machine → Conv → Header
header_of m conv = header_for m conv conv.service

-- a part of the image as a segment
abbrev pub segment_of : Part → CSeg
segment_of part = record { base = part.base; write = part.writes; len = part.len; bytes = part.bytes }

-- ---- closed summaries

-- a program with its procedures, for summaries
abbrev pub summarized_of : Plan → List ℕ → Summarized
summarized_of plan roots = record { code = code_of plan.flow.setting plan.flow.table; roots = roots; machine = plan.flow.setting.machine; conv = plan.flow.setting.conv }

-- the cells of procedures hold together: what a body names is among the cells that its procedure gets, what it assigns among
-- those that it hands back, and what a procedure that it enters gets or hands back is among its own
pub record AreClosed (plan : Plan) (roots : List ℕ) : Type 0 where
  pub named : (p : ℕ) (b : Point) (c : ℕ) → Body (code_of plan.flow.setting plan.flow.table) p b → Contains (block_names plan.flow.setting.machine plan.flow.setting.conv (block_at plan.flow.setting b.pc)) c
      → plan.flow.setting.machine.zero ≢ Some c → has (plan.refs p) c ≡ true
  pub assigned : (p : ℕ) (b : Point) (c : ℕ) → Body (code_of plan.flow.setting plan.flow.table) p b → Contains (block_assigns plan.flow.setting.machine plan.flow.setting.conv (block_at plan.flow.setting b.pc)) c
      → plan.flow.setting.machine.zero ≢ Some c → has (plan.mods p) c ≡ true
  pub mods_in : (p c : ℕ) → has (plan.mods p) c ≡ true → has (plan.refs p) c ≡ true
  pub callee_refs : (p t c : ℕ) → IsCallee (summarized_of plan roots) p t → has (plan.refs t) c ≡ true → has (plan.refs p) c ≡ true
  pub callee_mods : (p t c : ℕ) → IsCallee (summarized_of plan roots) p t → has (plan.mods t) c ≡ true → has (plan.mods p) c ≡ true
  pub moving : (p c : ℕ) → has (plan.refs p) c ≡ true → (c < length plan.flow.setting.machine.widths) × (plan.flow.setting.machine.zero ≢ Some c)
  pub few : (p : ℕ) → length (plan.mods p) ≤ length plan.flow.setting.machine.widths

-- ---- functions

-- the temporaries of a function are enough for each instruction of its body
pub record HasRoom (plan : Plan) (p temps : ℕ) : Type 0 where
  pub flags : 4 ≤ temps
  pub needs : (b : Point) (inst : GroundInst) (kind : JumpKind) → Body (code_of plan.flow.setting plan.flow.table) p b → block_at plan.flow.setting b.pc ≡ Inst inst kind → lowered_need inst.transfers ≤ temps

-- the program has a function of a procedure: its parameters are the cells that it gets, it begins with the block of its first
-- point, and has the block of each point of its body, and each further block
pub record HasFunction (plan : Plan) (program : Program) (p : ℕ) : Type 0 where
  pub found : Found
  pub is : function_from 0 program.functions p ≡ Some found
  pub there : slice_get program.functions found.index ≡ Some found.function
  pub params : found.function.params ≡ plan.refs p
  pub room : HasRoom plan p found.function.temps
  pub first : first_place found.function.blocks ≡ At (code_at plan p (point p Seq)).stmts (code_at plan p (point p Seq)).end
  pub blocks : (b : Point) → Body (code_of plan.flow.setting plan.flow.table) p b → block_of found.function.blocks b ≡ Some (block_c plan p b)
  pub further : (b : Point) (more : CBlock) → Body (code_of plan.flow.setting plan.flow.table) p b → further_c plan p b ≡ Some more → block_of found.function.blocks more.label ≡ Some more

-- the choice among procedures leads each to itself, and nothing to another place, by at most 17 conditions in one another
pub record IsChoice (plan : Plan) : Type 0 where
  pub leaves : (x : ℕ) → IsTrue (plan.flow.is_procedure (leaf_of plan.tree x))
  pub chosen : (x : ℕ) → IsTrue (plan.flow.is_procedure x) → leaf_of plan.tree x ≡ x
  pub few : levels plan.tree ≤ 17

-- ---- the program

-- the C text of a plan, for an image of these parts with this entry
pub record IsPlanned (plan : Plan) (roots : List ℕ) (parts : List Part) (entry : ℕ) (program : Program) : Type 0 where
  pub sound : AreSoundTogether plan.flow.setting.encodings plan.flow.setting.machine plan.flow.setting.conv
  pub procedures : (p : ℕ) → IsTrue (plan.flow.is_procedure p) → Procedure (code_of plan.flow.setting plan.flow.table) roots p
  pub small : (p : ℕ) (b : Point) → Procedure (code_of plan.flow.setting plan.flow.table) roots p → Body (code_of plan.flow.setting plan.flow.table) p b → b.pc < 2 ^ 32
  pub seconds : (back s : ℕ) → back < 2 ^ 32 → second plan.flow.setting back ≡ Some s → (s < 2 ^ 32) × (s ≢ back)
  pub given : Contains roots entry
  pub closed : AreClosed plan roots
  pub choice : IsChoice plan
  pub functions : (p : ℕ) → Procedure (code_of plan.flow.setting plan.flow.table) roots p → HasFunction plan program p
  pub header : program.header ≡ header_of plan.flow.setting.machine plan.flow.setting.conv
  pub segments : program.segments ≡ map segment_of parts
  pub starts : program.entry ≡ entry
  pub first : program.first ≡ map (λ c. slice_index (first_cells plan.flow.setting.machine plan.flow.setting.conv) c) (plan.refs entry)

-- ---- the same

-- the steps of the C text for one instruction: by the nodes of the largest template and the cells
abbrev pub bound : Machine → ℕ
bound m = 8 * m.most_nodes + 2 * length m.widths + 256

-- bytes are numbers below 256
abbrev pub AreBytes : List ℕ → Type 0
AreBytes bytes = All (λ b. b < 256) bytes

-- on every input, with every block of bytes that lies whole in the stack of the first memory on both
-- sides, the two runs are the same within the bound
pub record IsSame (program : Program) (f : Flow) (parts : List Part) (entry : ℕ) : Type 0 where
  pub runs : (input : List ℕ) → AreBytes input → (block : Block) → IsInStack f.setting.conv block → AreBytes block.bytes
      → Same (bound f.setting.machine) (machine_run f (first_memory parts f.setting.conv block) entry input) (c_run program block input)

-- the C text of a plan is the same as the machine
abbrev pub PlannedIsSame : Type 0
PlannedIsSame = (plan : Plan) (roots : List ℕ) (parts : List Part) (entry : ℕ) (program : Program) → IsPlanned plan roots parts entry program
    → IsSame program plan.flow parts entry
