-- More input than it may have comes only where it is told as too long.
use Rattle.std.proofs.Common.{◌≡◌, inl, inr, ℕ, List, Option, Some, None, refl, ap, arith}
use Rattle.std.specs.Prelude.{MatchOption}
use Rattle.edge_io.specs.Input.{Input}
use Rattle.edge_io.specs.Output.{Output}
use Rattle.uqbt_top.specs.declared.outcome.Outcome.{Outcome}
use Rattle.uqbt_top.specs.declared.outcome.Outcome.TheVariants.{Done, Ran, Agreed, Differs, Spent, Usage, Description, Executable, InputTooLong, FileTooLong, NoMemory, WriteFault, ReadFault}
use Rattle.command_words.specs.Forms.{Command, Translate, Run, Check, Text}
use Rattle.uqbt_top.specs.Command.{command_of}
use Rattle.uqbt_top.specs.Built.{Descriptions}
use Rattle.load_image.specs.declared.image.Image.{Image}
use Rattle.descriptions.specs.declared.described.Described.{Described}
use Rattle.uqbt_top.specs.WholeInput.{CameWithin}
use Rattle.uqbt_top.specs.Running.{ImageRan, RunDid}
use Rattle.uqbt_top.specs.Causes.{Around, AllRead, CommandCaused, Caused}
use Rattle.uqbt_top.specs.Fed.{TooLongIsExact}

-- the input stayed
stayed : (o : Outcome) (input input' : Input) → input' ≡ input → TooLongIsExact input input' o
stayed o input input' e more = absurd (omega (arith, more, ap (λ i. i.given) e))

-- no more came than it may have
within : (o : Outcome) (input input' : Input) (bytes : List ℕ) → CameWithin input input' bytes → TooLongIsExact input input' o
within o input input' bytes came more = absurd (omega (arith, more, came.gave.given, came.within))

some_came : (d : Described) (i : Image) (n : ℕ) (input input' : Input) (out out' : Output) → ImageRan d i n input input' out out' NoMemory → TooLongIsExact input input' NoMemory
some_came d i n input input' out out' (inl some) = within NoMemory input input' some.0.bytes some.0.came
some_came d i n input input' out out' (inr on) = within NoMemory input input' on.bytes on.whole.came

by_run : (t : Descriptions) (exe : List ℕ) (n : ℕ) (input input' : Input) (out out' : Output) (o : Outcome) → RunDid t exe n input input' out out' o → TooLongIsExact input input' o
by_run t exe n input input' out out' (Ran stop) did = within (Ran stop) input input' did.did.bytes did.did.whole.came
by_run t exe n input input' out out' Spent did = within Spent input input' did.did.bytes did.did.whole.came
by_run t exe n input input' out out' WriteFault did = within WriteFault input input' did.did.bytes did.did.whole.came
by_run t exe n input input' out out' InputTooLong did = λ more. refl
by_run t exe n input input' out out' ReadFault did = within ReadFault input input' did.did.bytes did.did.came
by_run t exe n input input' out out' (Description file fault) did = stayed (Description file fault) input input' did.1
by_run t exe n input input' out out' (Executable fault) did = stayed (Executable fault) input input' did.1
by_run t exe n input input' out out' NoMemory (inl still) = stayed NoMemory input input' still.0
by_run t exe n input input' out out' NoMemory (inr w) = some_came w.described w.image n input input' out out' w.did
by_run t exe n input input' out out' o did = absurd did.did

by_command : (command : Command) (a : Around) (o : Outcome) → AllRead command a o → TooLongIsExact a.input a.input' o
by_command (Translate files) a o all = stayed o a.input a.input' all.did.1
by_command (Check texts) a o all = stayed o a.input a.input' all.did.1
by_command (Run files steps) a o all = by_run all.did.texts all.did.exe steps a.input a.input' a.out a.out' o all.did.did
by_command (Text name) a o all = stayed o a.input a.input' all.did.1
by_command command a o all = absurd all.did

by_answer : (command : Command) (a : Around) (o : Outcome) → CommandCaused command a o → TooLongIsExact a.input a.input' o
by_answer command a Done did = by_command command a Done did
by_answer command a (Ran stop) did = by_command command a (Ran stop) did
by_answer command a (Agreed stop) did = by_command command a (Agreed stop) did
by_answer command a (Differs at) did = by_command command a (Differs at) did
by_answer command a Spent did = by_command command a Spent did
by_answer command a Usage did = absurd did
by_answer command a (Description file fault) did = by_command command a (Description file fault) did
by_answer command a (Executable fault) did = by_command command a (Executable fault) did
by_answer command a InputTooLong did = by_command command a InputTooLong did
by_answer command a (FileTooLong file) did = stayed (FileTooLong file) a.input a.input' did.1
by_answer command a WriteFault did = by_command command a WriteFault did
by_answer command a NoMemory (inl before) = stayed NoMemory a.input a.input' before.1
by_answer command a NoMemory (inr all) = by_command command a NoMemory all
by_answer command a ReadFault (inl files) = stayed ReadFault a.input a.input' files.1
by_answer command a ReadFault (inr all) = by_command command a ReadFault all

by_form : (form : Option Command) (a : Around) (o : Outcome) → MatchOption form ((o ≡ Usage) × (a.names' ≡ a.names) × (a.input' ≡ a.input)) (λ command. CommandCaused command a o)
    → TooLongIsExact a.input a.input' o
by_form None a o did = stayed o a.input a.input' did.2
by_form (Some command) a o did = by_answer command a o did

-- the causes of the answers say it
pub exactly_fed : (words : List (List ℕ)) (a : Around) (o : Outcome) → Caused words a o → TooLongIsExact a.input a.input' o
exactly_fed words a o did = by_form (command_of words) a o did
