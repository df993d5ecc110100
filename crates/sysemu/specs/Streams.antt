-- What contracts see of the streams, and how a service finds and leaves them.
use Rattle.std.specs.Prelude.{ℕ, List}
use Rattle.rtl_core.specs.Contents.{Contents}
use Rattle.rtl_core.specs.Services.{World, Served}

-- the rest of the input, the bytes written and not yet taken, and the break
pub record Flow : Type 0 where
  pub input : List ℕ
  pub pending : List ℕ
  pub heap_end : ℕ

-- the world of a service over a memory and streams
abbrev pub world_of : Contents → Flow → World
world_of memory flow = record { memory = memory; input = flow.input; heap_end = flow.heap_end }

-- streams that were empty of output, after a service
abbrev pub flow_after : Served → Flow
flow_after done = record { input = done.world.input; pending = done.written; heap_end = done.world.heap_end }
