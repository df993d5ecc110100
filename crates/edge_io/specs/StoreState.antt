-- A store in memory: what it holds, and what its next fetch answers.
use Rattle.std.specs.Prelude.{ℕ, List, [], ◌∷◌, length, nat_lt, if◌then◌else◌, Option, Some, None, Result, Ok, Err}
use Rattle.std.specs.Str.{bytes_eq}
use Rattle.edge_io.specs.Counts.{counted}
use Rattle.edge_io.specs.Files.{Files, Names, names_after}
use Rattle.edge_io.specs.Failing.{fails_next}
use Rattle.edge_io.specs.declared.memory_store.NamedFile.{NamedFile}
use Rattle.edge_io.specs.declared.store.Fetch.{Fetch}
use Rattle.edge_io.specs.declared.store.Fetch.TheVariants.{Failed, TooLong}

-- the bytes of the first file of a name
abbrev pub file_named : List NamedFile → Files
file_named [] name = None
file_named (file ∷ files) name = if bytes_eq file.name name then Some file.bytes.items else file_named files name

-- the files, the calls that fail, the count of calls, and the names refused
pub record StoreState : Type 0 where
  pub files : List NamedFile
  pub fails : List ℕ
  pub calls : ℕ
  pub names : Names

-- a file that is there is given up to the limit
abbrev pub file_answer : ℕ → Option (List ℕ) → Result (List ℕ) Fetch
file_answer limit None = Err Failed
file_answer limit (Some bytes) = if nat_lt limit (length bytes) then Err TooLong else Ok bytes

-- what the next fetch answers, if memory is found
abbrev pub fetch_answer : StoreState → List ℕ → ℕ → Result (List ℕ) Fetch
fetch_answer s name limit = if fails_next s.fails s.calls then Err Failed else file_answer limit (file_named s.files name)

-- what an answer leaves
abbrev pub store_after : {T : Type 0} → StoreState → List ℕ → ℕ → Result T Fetch → StoreState
store_after s name limit result = record s { calls = counted s.calls 1; names = names_after s.names name limit result }
