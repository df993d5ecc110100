-- A source in memory: what it holds, and how its next take goes.
use Rattle.std.specs.Prelude.{ℕ, min, List, length, drop, if◌then◌else◌, Some, Result, Ok, Err}
use Rattle.edge_io.specs.Counts.{counted}
use Rattle.edge_io.specs.Input.{Input}
use Rattle.edge_io.specs.Failing.{fails_next}
use Rattle.edge_io.specs.declared.fault.Failed.{Failed}

-- the bytes left, the most that a call moves, the calls that fail, and the counts
pub record SourceState : Type 0 where
  pub left : List ℕ
  pub piece : ℕ
  pub fails : List ℕ
  pub calls : ℕ
  pub given : ℕ
  pub faults : ℕ

-- what it shows as a source
abbrev pub input_of : SourceState → Input
input_of s = record { left = Some s.left; given = s.given; faults = s.faults }

-- how many bytes the next take gives to a buffer of that length, if it doesn't fail
abbrev pub source_count : SourceState → ℕ → ℕ
source_count s room = min room (min s.piece (length s.left))

-- what the next take answers
abbrev pub source_answer : SourceState → ℕ → Result ℕ Failed
source_answer s room = if fails_next s.fails s.calls then Err (record {}) else Ok (source_count s room)

-- what it leaves
abbrev pub source_after : SourceState → ℕ → SourceState
source_after s room = if fails_next s.fails s.calls
    then record s { calls = counted s.calls 1; faults = counted s.faults 1 }
    else record s {
      calls = counted s.calls 1;
      given = counted s.given (source_count s room);
      left = drop (source_count s room) s.left;
    }
