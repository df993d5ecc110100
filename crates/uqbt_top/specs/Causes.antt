-- When each answer comes, and what was written.
use Rattle.std.specs.Prelude.{◌≡◌, ◌⊎◌, ℕ, List, [], ◌∷◌, ◌++◌, All, Option, Some, MatchOption, Result, Ok, Err}
use Rattle.std.specs.Option.{IsSomeAnd}
use Rattle.edge_io.specs.Files.{Files, Names, IsLonger}
use Rattle.edge_io.specs.Input.{Input}
use Rattle.edge_io.specs.Output.{Output}
use Rattle.c_control.specs.Programs.{AreBytes}
use Rattle.command_words.specs.Forms.{Command, Translate, Run, Check, Text}
use Rattle.uqbt_top.specs.declared.outcome.Outcome.{Outcome}
use Rattle.uqbt_top.specs.declared.outcome.Outcome.TheVariants.{Done, Usage, FileTooLong, NoMemory, ReadFault}
use Rattle.uqbt_top.specs.Message.{limit_of}
use Rattle.uqbt_top.specs.Wanted.{Wanted, AreFiles, IsDue}
use Rattle.uqbt_top.specs.Command.{command_of, files_of}
use Rattle.uqbt_top.specs.Translating.{TranslateRead, TranslateKeepsOut}
use Rattle.uqbt_top.specs.Checking.{CheckRead}
use Rattle.uqbt_top.specs.Shipping.{TextKeepsOut, TextPut, shipped_text}
use Rattle.uqbt_top.specs.Running.{RunRead, RunKeepsInput, RunKeepsOut}

-- one name more failed
pub record NewFailed (old new : Names) (name : List ℕ) : Type 0 where
  pub failed : new.failed ≡ old.failed ++ name ∷ []
  pub long : new.long ≡ old.long

-- one name more was too long for its limit
pub record NewLong (told : Option Files) (old new : Names) (name : List ℕ) (limit : ℕ) : Type 0 where
  pub failed : new.failed ≡ old.failed
  pub long : new.long ≡ old.long ++ (name, limit) ∷ []
  pub longer : IsLonger told name limit

-- why a file wasn't given, by the answer
abbrev pub FetchStopped : Option Files → Wanted → Names → Names → Outcome → Type 0
FetchStopped told w old new (FileTooLong file) = (file ≡ w.file) × NewLong told old new w.name (limit_of w.file)
FetchStopped told w old new NoMemory = new ≡ old
FetchStopped told w old new ReadFault = NewFailed old new w.name
FetchStopped told w old new _ = ⊥

-- one of the files wasn't given, and those before it are there and within their limits
pub record ReadStopped (told : Option Files) (all : List Wanted) (old new : Names) (outcome : Outcome) : Type 0 where
  pub this : Wanted
  pub due : IsDue told all this
  pub did : FetchStopped told this old new outcome

-- what a command did with its files' bytes: one line for each command that is there; only `run` takes input
abbrev pub Did : Command → List (List ℕ) → Input → Input → Output → Output → Outcome → Type 0
Did (Translate files) bytes input input' out out' outcome = TranslateRead bytes out out' outcome × (input' ≡ input)
Did (Run files steps) bytes input input' out out' outcome = RunRead bytes steps input input' out out' outcome
Did (Check texts) bytes input input' out out' outcome = CheckRead bytes out out' outcome × (input' ≡ input)
Did (Text name) bytes input input' out out' outcome = IsSomeAnd (shipped_text name) (λ text. TextPut text out out' outcome) × (input' ≡ input)
Did command bytes input input' out out' outcome = ⊥

-- what the files, the input and the output show before and after a call
pub record Around : Type 0 where
  pub told : Option Files
  pub names : Names
  pub names' : Names
  pub input : Input
  pub input' : Input
  pub out : Output
  pub out' : Output

-- all files are there and within their limits, no name is new, and this was done with their bytes
pub record AllRead (command : Command) (a : Around) (outcome : Outcome) : Type 0 where
  pub kept : a.names' ≡ a.names
  pub bytes : List (List ℕ)
  pub are_bytes : All AreBytes bytes
  pub were_read : AreFiles a.told (files_of command) bytes
  pub did : Did command bytes a.input a.input' a.out a.out' outcome

-- one of the files wasn't given, and no input was taken
abbrev pub FilesStopped : Command → Around → Outcome → Type 0
FilesStopped command a outcome = ReadStopped a.told (files_of command) a.names a.names' outcome × (a.input' ≡ a.input)

-- memory ran out before all files were there
abbrev pub RanOutBefore : Around → Type 0
RanOutBefore a = (a.names' ≡ a.names) × (a.input' ≡ a.input) × (a.out' ≡ a.out)

-- what a command did, by its answer
abbrev pub CommandCaused : Command → Around → Outcome → Type 0
CommandCaused command a Usage = ⊥
CommandCaused command a (FileTooLong file) = FilesStopped command a (FileTooLong file)
CommandCaused command a ReadFault = FilesStopped command a ReadFault ⊎ AllRead command a ReadFault
CommandCaused command a NoMemory = RanOutBefore a ⊎ AllRead command a NoMemory
CommandCaused command a outcome = AllRead command a outcome

-- what the program did, by its words and its answer: Usage exactly for words of no form
abbrev pub Caused : List (List ℕ) → Around → Outcome → Type 0
Caused words a outcome =
    MatchOption (command_of words) ((outcome ≡ Usage) × (a.names' ≡ a.names) × (a.input' ≡ a.input)) (λ command. CommandCaused command a outcome)

-- ---- what stays

-- a fact for the answers before the output: one line for each command that puts something out
abbrev pub OnRefusal : Option Command → Outcome → Type 0 → Type 0
OnRefusal (Some (Translate files)) outcome kept = TranslateKeepsOut outcome kept
OnRefusal (Some (Run files steps)) outcome kept = RunKeepsOut outcome kept
OnRefusal (Some (Text name)) outcome kept = TextKeepsOut outcome kept
OnRefusal _ outcome kept = kept

-- a fact for the answers before the input: one line for each command that takes any
abbrev pub OnNoInput : Option Command → Outcome → Type 0 → Type 0
OnNoInput (Some (Run files steps)) outcome kept = RunKeepsInput outcome kept
OnNoInput _ outcome kept = kept

-- what a private call answers, as an answer of the program
abbrev pub outcome_of : {T : Type 0} → Result T Outcome → Outcome
outcome_of (Ok _) = Done
outcome_of (Err e) = e
