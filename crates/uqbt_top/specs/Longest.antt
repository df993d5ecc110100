-- Which file is the first that is over its limit.
use Rattle.std.specs.Prelude.{◌≡◌, ◌⊎◌, ℕ, List, [], ◌∷◌, length, nat_lt, if◌then◌else◌, Option, Some, None, IfSome}
use Rattle.edge_io.specs.Files.{Files, Names}
use Rattle.uqbt_top.specs.Message.{limit_of}
use Rattle.uqbt_top.specs.Wanted.{Wanted}
use Rattle.uqbt_top.specs.Command.{command_of, files_of}
use Rattle.uqbt_top.specs.declared.outcome.FileName.{FileName}
use Rattle.uqbt_top.specs.declared.outcome.Outcome.{Outcome}
use Rattle.uqbt_top.specs.declared.outcome.Outcome.TheVariants.{NoMemory, FileTooLong}

-- by what a file holds: it is over its limit, or the others behind it are asked, or it isn't there
abbrev pub long_or : FileName → ℕ → Option FileName → Option (List ℕ) → Option FileName
long_or file limit rest None = None
long_or file limit rest (Some bytes) = if nat_lt limit (length bytes) then Some file else rest

-- the first file over its limit, if all before it are there
abbrev pub first_long : Files → List Wanted → Option FileName
first_long files [] = None
first_long files (w ∷ ws) = long_or w.file (limit_of w.file) (first_long files ws) (files w.name)

-- where the files are told and no fetch failed, the first file over its limit is told, unless memory ran out
abbrev pub LongIsExact : Option Files → List (List ℕ) → Names → Names → Outcome → Type 0
LongIsExact told words old new outcome = IfSome told (λ files. IfSome (command_of words) (λ command. IfSome (first_long files (files_of command)) (λ file.
    new.failed ≡ old.failed → (outcome ≡ FileTooLong file) ⊎ (outcome ≡ NoMemory))))
