-- A sink in memory: what it holds, and how its next put goes.
use Rattle.std.specs.Prelude.{ℕ, ◌-◌, ◌||◌, Bool, min, List, ◌++◌, length, take, nat_le, if◌then◌else◌, Some, Result, Ok, Err}
use Rattle.edge_io.specs.Counts.{counted}
use Rattle.edge_io.specs.Output.{Output}
use Rattle.edge_io.specs.Failing.{fails_next}
use Rattle.edge_io.specs.declared.fault.Failed.{Failed}

-- the bytes taken, the room for them, the most that a call moves, the calls that fail, and the counts
pub record SinkState : Type 0 where
  pub taken : List ℕ
  pub room : ℕ
  pub piece : ℕ
  pub fails : List ℕ
  pub calls : ℕ
  pub faults : ℕ

-- what it shows as a sink
abbrev pub output_of : SinkState → Output
output_of s = record { taken = Some s.taken; faults = s.faults }

-- how many bytes of a piece the next put takes, if it doesn't fail
abbrev pub sink_count : SinkState → List ℕ → ℕ
sink_count s piece = min (length piece) (min s.piece (s.room - length s.taken))

-- the next put fails: by its number, or as the room is full
abbrev pub sink_fails : SinkState → Bool
sink_fails s = fails_next s.fails s.calls || nat_le s.room (length s.taken)

-- what the next put answers
abbrev pub sink_answer : SinkState → List ℕ → Result ℕ Failed
sink_answer s piece = if sink_fails s then Err (record {}) else Ok (sink_count s piece)

-- what it leaves
abbrev pub sink_after : SinkState → List ℕ → SinkState
sink_after s piece = if sink_fails s
    then record s { calls = counted s.calls 1; faults = counted s.faults 1 }
    else record s { calls = counted s.calls 1; taken = s.taken ++ take (sink_count s piece) piece }
