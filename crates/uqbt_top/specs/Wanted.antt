-- The files that a command reads, and how far it came.
use Rattle.std.specs.Prelude.{◌≡◌, ℕ, List, [], ◌∷◌, ◌++◌, Option}
use Rattle.edge_io.specs.Files.{Files, IsFile}
use Rattle.uqbt_top.specs.declared.outcome.FileName.{FileName}
use Rattle.uqbt_top.specs.declared.reading.FileWord.{FileWord}
use Rattle.uqbt_top.specs.Message.{limit_of}

-- a file word, and which file it names
pub record Wanted : Type 0 where
  pub file : FileName
  pub name : List ℕ

-- a file word of the code as such a pair
abbrev pub wanted : FileWord → Wanted
wanted word = record { file = word.file; name = word.name.now }

-- these are the bytes of the files, one after the other, each within its limit
abbrev pub AreFiles : Option Files → List Wanted → List (List ℕ) → Type 0
AreFiles told [] [] = Unit {0}
AreFiles told [] (bytes ∷ rest) = ⊥
AreFiles told (w ∷ ws) [] = ⊥
AreFiles told (w ∷ ws) (bytes ∷ rest) = IsFile told w.name (limit_of w.file) bytes × AreFiles told ws rest

-- the command wants this file, and each file before it is there and within its limit
pub record IsDue (told : Option Files) (all : List Wanted) (this : Wanted) : Type 0 where
  pub before : List Wanted
  pub behind : List Wanted
  pub whole : all ≡ before ++ this ∷ behind
  pub texts : List (List ℕ)
  pub were_read : AreFiles told before texts
