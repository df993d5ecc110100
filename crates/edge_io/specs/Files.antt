-- What a fetch says of the files of a store and of its two lists of names.
use Rattle.std.specs.Prelude.{◌≡◌, ℕ, ◌<◌, ◌≤◌, List, [], ◌∷◌, ◌++◌, length, IfSome, IsSomeAnd, Option, Some, Result, Ok, Err}
use Rattle.edge_io.specs.declared.store.Fetch.{Fetch}
use Rattle.edge_io.specs.declared.store.Fetch.TheVariants.{Failed, TooLong, NoMemory}

-- the bytes of each file, by its name
abbrev pub Files : Type 0
Files = List ℕ → Option (List ℕ)

-- the names whose fetch failed, and those of files that were too long, each with its limit
pub record Names : Type 0 where
  pub failed : List (List ℕ)
  pub long : List (List ℕ × ℕ)

-- the names after an answer: a failure and a file too long add one each, and nothing else does
abbrev pub names_after : {T : Type 0} → Names → List ℕ → ℕ → Result T Fetch → Names
names_after names name limit (Ok _) = names
names_after names name limit (Err Failed) = record names { failed = names.failed ++ name ∷ [] }
names_after names name limit (Err TooLong) = record names { long = names.long ++ (name, limit) ∷ [] }
names_after names name limit (Err NoMemory) = names

-- the file of that name is there and longer than the limit, if the files are told
abbrev pub IsLonger : Option Files → List ℕ → ℕ → Type 0
IsLonger told name limit = IfSome told (λ files. IsSomeAnd (files name) (λ bytes. limit < length bytes))

-- within the limit, and the bytes of the file of that name, if the files are told
pub record IsFile (told : Option Files) (name : List ℕ) (limit : ℕ) (bytes : List ℕ) : Type 0 where
  pub within : length bytes ≤ limit
  pub named : IfSome told (λ files. files name ≡ Some bytes)
