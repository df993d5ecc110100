-- The functions of a program and their blocks, and no others; the image of a program.
use Rattle.std.specs.Prelude.{◌≡◌, ℕ, true, false, List, [], map, slice_get, Some}
use Rattle.std.specs.List.{All}
use Rattle.std.specs.List.Sorted.{IsStrictlySortedBy}
use Rattle.std.specs.Ordering.{nat_cmp}
use Rattle.rtl_core.specs.declared.inst.GroundInst.{GroundInst}
use Rattle.rtl_core.specs.declared.point.Point.{Point}
use Rattle.rtl_core.specs.declared.point.Slot.{Slot}
use Rattle.rtl_core.specs.declared.point.Slot.TheVariants.{Seq, Dyn, Ret}
use Rattle.rtl_core.specs.FirstMemory.{Part, Block, first_memory}
use Rattle.points.specs.declared.block.Block.TheVariants.{Inst}
use Rattle.points.specs.declared.block.JumpKind.{JumpKind}
use Rattle.points.specs.declared.graph.Summary.{Summary}
use Rattle.points.specs.Bodies.{Code, code_of, Body, Procedure}
use Rattle.points.specs.Courses.{point, pending, halts, jump_mode, annul_mode}
use Rattle.points.specs.Exactly.{IsExactly}
use Rattle.points.specs.Kinds.{block_at}
use Rattle.c_lang.specs.declared.tree.CBlock.{CBlock}
use Rattle.c_lang.specs.declared.tree.Function.{Function}
use Rattle.c_lang.specs.declared.tree.Program.{Program}
use Rattle.c_lang.specs.Run.{memory_of}
use Rattle.c_lang.specs.StaticRules.{no_two}
use Rattle.c_lang.specs.Step.{block_of, same_point}
use Rattle.c_control.specs.Blocks.{block_c, labelled, arrival_code, can_arrive, always_arrives, annul_for}
use Rattle.c_control.specs.Plans.{Plan, further_label}
use Rattle.c_control.specs.Programs.{segment_of}
use Rattle.c_program.specs.Shown.{IsSummaryOf}

-- the program that a plan is for
abbrev pub code_for : Plan → Code
code_for plan = code_of plan.flow.setting plan.flow.table

-- ---- blocks

-- arrivals that leave the procedure: a return, and a computed plain jump without a table
pub data Leaves (plan : Plan) : Slot → Type 0 where
  returns : Leaves plan Ret
  jumps : {a : ℕ} → plan.flow.table a ≡ [] → Leaves plan (Dyn a)

-- the instruction of a point that has nothing to come can make such an arrival at once, but not each time that it is done: only
-- under the guard of its jump, or under that of its annul
pub record LeavesUnderGuard (plan : Plan) (b : Point) (slot : Slot) : Type 0 where
  pub fresh : b.slot ≡ Seq
  pub inst : GroundInst
  pub kind : JumpKind
  pub stands : block_at plan.flow.setting b.pc ≡ Inst inst kind
  pub going : halts inst.transfers ≡ false
  pub jump : pending b.pc kind ≡ slot
  pub leaves : Leaves plan slot
  pub can : can_arrive (jump_mode inst.transfers) (annul_for plan.flow.setting.machine.delay (annul_mode inst.transfers)) ≡ true
  pub guarded : always_arrives (jump_mode inst.transfers) (annul_for plan.flow.setting.machine.delay (annul_mode inst.transfers)) ≡ false

-- the block that does an arrival at a point alone
abbrev pub further_block : Plan → (p : ℕ) → Point → Slot → CBlock
further_block plan p b slot = labelled (further_label b.pc) (arrival_code plan p slot)

-- a block of the procedure p: that of a point of its body, or the further block of one that leaves it under a guard
pub data IsBlockOf (plan : Plan) (p : ℕ) : CBlock → Type 0 where
  at : {b : Point} → Body (code_for plan) p b → IsBlockOf plan p (block_c plan p b)
  further : {b : Point} {slot : Slot} → Body (code_for plan) p b → LeavesUnderGuard plan b slot → IsBlockOf plan p (further_block plan p b slot)

-- these are the blocks of p, each once: one for each point of its body, first that of its entry, and one further block for each
-- point that leaves it under a guard, under a label that is no point of the body
pub record AreBlocksOf (plan : Plan) (p : ℕ) (blocks : List CBlock) : Type 0 where
  pub begins : slice_get blocks 0 ≡ Some (block_c plan p (point p Seq))
  pub points : (b : Point) → Body (code_for plan) p b → block_of blocks b ≡ Some (block_c plan p b)
  pub further : (b : Point) (slot : Slot) → Body (code_for plan) p b → LeavesUnderGuard plan b slot → block_of blocks (further_label b.pc) ≡ Some (further_block plan p b slot)
  pub none_else : All (IsBlockOf plan p) blocks
  pub once : no_two same_point (map (λ b. b.label) blocks) ≡ true
  pub apart : (pc : ℕ) → ¬ Body (code_for plan) p (further_label pc)

-- ---- functions

-- a function is that of the procedure at its address: its parameters are exactly the cells that this gets, ascending, it declares
-- no other cell, and its blocks are those of the procedure
pub record IsProcedureFunction (plan : Plan) (roots : List ℕ) (f : Function) : Type 0 where
  pub procedure : Procedure (code_for plan) roots f.entry
  pub params : f.params ≡ plan.refs f.entry
  pub params_rise : IsStrictlySortedBy nat_cmp f.params
  pub cells : f.cells ≡ []
  pub blocks : AreBlocksOf plan f.entry f.blocks

-- the program has one function for each procedure, ascending by address, and no other
pub record HasItsFunctions (plan : Plan) (roots : List ℕ) (program : Program) : Type 0 where
  pub entries : IsExactly (Procedure (code_for plan) roots) (map (λ f. f.entry) program.functions)
  pub entries_rise : IsStrictlySortedBy nat_cmp (map (λ f. f.entry) program.functions)
  pub each : All (IsProcedureFunction plan roots) program.functions

-- what a procedure gets and hands back are the cells of its summary, and each function has its summary, in their order
pub record HasItsCells (plan : Plan) (sums : List Summary) (program : Program) : Type 0 where
  pub summaries : All (IsSummaryOf plan) sums
  pub entries : map (λ s. s.entry) sums ≡ map (λ f. f.entry) program.functions

-- ---- the image

-- the segments are the parts of the image, heap and stack lie where the conventions say, and so the first memory is the machine's,
-- with whatever block is put in
pub record HasItsImage (plan : Plan) (parts : List Part) (program : Program) : Type 0 where
  pub segments : program.segments ≡ map segment_of parts
  pub heap_base : program.header.heap_base ≡ plan.flow.setting.conv.heap_base
  pub heap_size : program.header.heap_size ≡ plan.flow.setting.conv.heap_size
  pub stack_base : program.header.stack_base ≡ plan.flow.setting.conv.stack_base
  pub stack_size : program.header.stack_size ≡ plan.flow.setting.conv.stack_size
  pub memory : (block : Block) → memory_of program block ≡ first_memory parts plan.flow.setting.conv block
