-- What a guest needs of its program, and the runs that it is in.
use Rattle.std.specs.Prelude.{◌<◌, ◌^◌, All}
use Rattle.rtl_core.specs.declared.machine.Machine.{Machine}
use Rattle.rtl_core.specs.SoundConv.{IsSoundConv, FitsMachine}
use Rattle.rtl_core.specs.SoundTerms.{IsSoundTransfer}
use Rattle.rtl_meaning.specs.Saved.{Fits}
use Rattle.points.specs.declared.block.Block.{Block}
use Rattle.points.specs.declared.graph.Node.{Node}
use Rattle.points.specs.Control.{Flow}
use Rattle.graph_control.specs.Charts.{Chart}
use Rattle.graph_control.specs.declared.lookup.Lookup.{Lookup}
use Rattle.graph_control.specs.Programs.{IsAt}
use Rattle.graph_control.specs.Ways.{IsLookup}
use Rattle.runner.specs.declared.run_state.RunState.{RunState}
use Rattle.runner.specs.Shown.{Shown}

-- a guest is in a run of the flow's program
abbrev pub Runs : Flow → Shown → Type 0
Runs f g = IsAt g.chart f g.state.position

-- the transfers of an instruction are sound
abbrev pub IsSoundBlock : Machine → Block → Type 0
IsSoundBlock m Block.Outside = Unit {0}
IsSoundBlock m Block.Illegal = Unit {0}
IsSoundBlock m (Block.Inst inst kind) = All (IsSoundTransfer m) inst.transfers

-- a node at an address of 32 bits has a sound instruction, if it has one
abbrev pub IsSoundNode : Machine → Node → Type 0
IsSoundNode m n = n.point.pc < 2 ^ 32 → IsSoundBlock m n.block

-- the conventions are sound for the machine, and so are the instructions of all nodes
pub record IsSoundChart (c : Chart) : Type 0 where
  pub conv : IsSoundConv c.conv
  pub fits : FitsMachine c.conv c.machine
  pub blocks : All (IsSoundNode c.machine) c.graph.nodes

-- the cells and the saved windows are those of the machine, and the break has 32 bits
abbrev pub FitsChart : Chart → RunState → Type 0
FitsChart c s = Fits c.machine s.cells.values s.windows × (s.streams.heap_end < 2 ^ 32)

-- what is true at each moment of a run
pub record IsWhole (c : Chart) (l : Lookup) (s : RunState) : Type 0 where
  pub sound : IsSoundChart c
  pub lookup : IsLookup c l
  pub fits : FitsChart c s
