-- The whole input of a command, and why it isn't had.
use Rattle.std.specs.Prelude.{ℕ, ◌≤◌, ◌<◌, List, length}
use Rattle.edge_io.specs.Counts.{Rose}
use Rattle.edge_io.specs.Told.{IsNothing}
use Rattle.edge_io.specs.Input.{Input, Gave}
use Rattle.c_control.specs.Programs.{AreBytes}
use Rattle.uqbt_top.specs.declared.outcome.Outcome.{Outcome}
use Rattle.uqbt_top.specs.declared.outcome.Outcome.TheVariants.{InputTooLong, NoMemory, ReadFault}

-- the most bytes of input
abbrev pub most_input : ℕ
most_input = 16777216

-- these bytes of the input came, and they are no more than it may have
pub record CameWithin (input input' : Input) (bytes : List ℕ) : Type 0 where
  pub gave : Gave input input' bytes
  pub within : length bytes ≤ most_input

-- more bytes came than the input may have
pub record CameMore (input input' : Input) : Type 0 where
  pub bytes : List ℕ
  pub gave : Gave input input' bytes
  pub more : most_input < length bytes

-- the input failed
pub record InputFailed (input input' : Input) : Type 0 where
  pub bytes : List ℕ
  pub came : CameWithin input input' bytes
  pub rose : Rose input.faults input'.faults

-- these bytes are the whole input, and they are no more than it may have
pub record IsInput (input input' : Input) (bytes : List ℕ) : Type 0 where
  pub are_bytes : AreBytes bytes
  pub came : CameWithin input input' bytes
  pub end : IsNothing input'.left

-- some bytes came that are no more than it may have
pub record CameSome (input input' : Input) : Type 0 where
  pub bytes : List ℕ
  pub came : CameWithin input input' bytes

-- why the input isn't had, by the answer
abbrev pub NoInput : Input → Input → Outcome → Type 0
NoInput input input' InputTooLong = CameMore input input'
NoInput input input' ReadFault = InputFailed input input'
NoInput input input' NoMemory = CameSome input input'
NoInput input input' _ = ⊥

-- the whole input came, and this is so of what the machine does on it
pub record OnInput (input input' : Input) (holds : List ℕ → Type 0) : Type 0 where
  pub bytes : List ℕ
  pub whole : IsInput input input' bytes
  pub so : holds bytes
