-- When the data are enough for the block of a node.
use Rattle.std.specs.Prelude.{◌≡◌, false}
use Rattle.rtl_core.specs.declared.inst.GroundInst.{GroundInst}
use Rattle.rtl_core.specs.declared.point.Point.{Point}
use Rattle.points.specs.declared.block.Block.TheVariants.{Inst}
use Rattle.points.specs.declared.block.JumpKind.{JumpKind}
use Rattle.points.specs.declared.graph.Node.{Node}
use Rattle.points.specs.Kinds.{block_at}
use Rattle.points.specs.Courses.{jump_mode, annul_mode, halts}
use Rattle.c_control.specs.Plans.{Plan}
use Rattle.c_program.specs.declared.control.Step.{Step}
use Rattle.c_program.specs.declared.sources.Sources.{Sources}
use Rattle.c_program.specs.Kept.{IsKnownStep}

-- an instruction as control sees it
abbrev pub step_of : Point → GroundInst → JumpKind → Step
step_of point inst kind = record { point = point; next = inst.next; kind = kind; jump = jump_mode inst.transfers; annul = annul_mode inst.transfers }

-- the data know what the control behind an instruction asks for; nothing comes behind a trap without a guard
pub record IsKnownInst (plan : Plan) (on : Sources) (point : Point) (inst : GroundInst) (kind : JumpKind) : Type 0 where
  pub step : halts inst.transfers ≡ false → IsKnownStep plan on (step_of point inst kind)

-- a node has what stands at its point, and the data know what it asks for
pub record IsReady (plan : Plan) (on : Sources) (node : Node) : Type 0 where
  pub here : block_at plan.flow.setting node.point.pc ≡ node.block
  pub known : (inst : GroundInst) (kind : JumpKind) → node.block ≡ Inst inst kind → IsKnownInst plan on node.point inst kind
