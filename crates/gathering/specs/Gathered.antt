-- What a gathering sink holds, and what a put leaves.
use Rattle.std.specs.Prelude.{ℕ, List, ◌++◌, Some, Result, Ok, Err}
use Rattle.edge_io.specs.Counts.{counted}
use Rattle.edge_io.specs.Output.{Output}

-- the bytes gathered; how often no memory was found
pub record Gathered : Type 0 where
  pub bytes : List ℕ
  pub faults : ℕ

-- what it shows as a sink
abbrev pub output_of : Gathered → Output
output_of s = record { taken = Some s.bytes; faults = s.faults }

-- what a put leaves: the piece behind the bytes, or one fault more
abbrev pub gathered_after : {T E : Type 0} → Gathered → List ℕ → Result T E → Gathered
gathered_after s piece (Ok _) = record s { bytes = s.bytes ++ piece }
gathered_after s piece (Err _) = record s { faults = counted s.faults 1 }
