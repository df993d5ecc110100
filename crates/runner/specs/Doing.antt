-- What an instruction and a service leave.
use Rattle.std.specs.Prelude.{◌≡◌, ℕ, List, Some, slice_get, is_some}
use Rattle.rtl_core.specs.declared.inst.GroundInst.{GroundInst}
use Rattle.rtl_meaning.specs.declared.effect.Effect.{Effect}
use Rattle.points.specs.declared.block.Block.TheVariants.{Inst}
use Rattle.points.specs.declared.block.JumpKind.{JumpKind}
use Rattle.points.specs.declared.graph.Node.{Node}
use Rattle.points.specs.Control.{Flow}
use Rattle.points.specs.Courses.{course, course_next}
use Rattle.points.specs.Running.{Did}
use Rattle.page_pool.specs.Frames.{Frames}
use Rattle.paged_space.specs.PageTable.{contents_of}
use Rattle.rtl_core.specs.declared.conv.ServiceShape.{ServiceShape}
use Rattle.rtl_core.specs.declared.machine.Machine.{Machine}
use Rattle.rtl_core.specs.Services.{Served, answered}
use Rattle.sysemu.specs.declared.cell_service.Served.{Served as ServedEnd}
use Rattle.sysemu.specs.Ends.{end_of}
use Rattle.sysemu.specs.Streams.{flow_after}
use Rattle.runner.specs.declared.run_state.RunState.{RunState}
use Rattle.graph_control.specs.declared.position.Position.{Position}
use Rattle.graph_control.specs.Charts.{Chart}
use Rattle.graph_control.specs.Programs.{Steers}

-- an instruction stands at the node where control is, and jumps so
pub record HasNode (c : Chart) (p : Position) (inst : GroundInst) (kind : JumpKind) : Type 0 where
  pub node : Node
  pub is : slice_get c.graph.nodes p.place ≡ Some node
  pub point : node.point ≡ p.point
  pub block : node.block ≡ Inst inst kind

-- what an instruction did that matters to control
abbrev pub did_of : GroundInst → JumpKind → Effect → Did
did_of inst kind effect = record { inst = inst; kind = kind; jump = effect.jump; annul = effect.annul }

-- control comes to go on behind an instruction that had this effect, in the run of a program
pub record Turns (c : Chart) (f : Flow) (roots : List ℕ) (p : Position) (inst : GroundInst) (kind : JumpKind) (effect : Effect) : Type 0 where
  pub node : HasNode c p inst kind
  pub steers : Steers c f roots p (course_next (course c.machine p.point inst.next kind (is_some effect.jump) effect.annul))

-- a service was done: its end, and what it left in the cells, the memory and the streams; all else is as it was
pub record IsServed (m : Machine) (shape : ServiceShape) (done : Served) (end : ServedEnd) (frames : Frames) (old new : RunState) : Type 0 where
  pub end_is : end ≡ end_of done.reply
  pub cells : new.cells.values ≡ answered m.zero shape done.reply old.cells.values
  pub memory : contents_of new.space frames ≡ done.world.memory
  pub streams : new.streams ≡ flow_after done
  pub windows : new.windows ≡ old.windows
  pub position : new.position ≡ old.position
