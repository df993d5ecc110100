-- How the answers of the commands follow from what was done with their files.
use Rattle.std.proofs.Common.{◌≡◌, inr, ℕ, List, Option, Some, sym, ap, ◌∙◌}
use Rattle.std.specs.Prelude.{All, option_map}
use Rattle.c_control.specs.Programs.{AreBytes}
use Rattle.command_words.specs.Forms.{Texts, Command, Check, as_command, form_of}
use Rattle.command_words.specs.declared.asked.Command.{Command as Asked}
use Rattle.uqbt_top.specs.declared.outcome.Outcome.{Outcome}
use Rattle.uqbt_top.specs.declared.outcome.Outcome.TheVariants.{Done, Description, NoMemory}
use Rattle.uqbt_top.specs.Wanted.{AreFiles}
use Rattle.uqbt_top.specs.Command.{command_of, there, three_files}
use Rattle.uqbt_top.specs.Checking.{CheckRead}
use Rattle.uqbt_top.specs.Causes.{Around, CommandCaused, Caused, OnRefusal, OnNoInput}

-- ---- what was done

-- `check` found this
pub checked : (texts : Texts) (a : Around) (bytes : List (List ℕ)) (o : Outcome) → All AreBytes bytes → AreFiles a.told (three_files texts) bytes → a.names' ≡ a.names → a.input' ≡ a.input
    → CheckRead bytes a.out a.out' o → CommandCaused (Check texts) a o
checked texts a bytes Done small read kept i did = record { kept = kept; bytes = bytes; are_bytes = small; were_read = read; did = (did, i) }
checked texts a bytes (Description file fault) small read kept i did = record { kept = kept; bytes = bytes; are_bytes = small; were_read = read; did = (did, i) }
checked texts a bytes NoMemory small read kept i did = inr (record { kept = kept; bytes = bytes; are_bytes = small; were_read = read; did = (did, i) })
checked texts a bytes o small read kept i did = absurd did.did

-- ---- words

-- words have the form of the command that was found
pub form_is : (words : List (List ℕ)) (asked : Option Asked) (found command : Asked) → option_map as_command asked ≡ form_of words → asked ≡ Some found → found ≡ command → form_of words ≡ Some (as_command command)
form_is words asked found command form is same = sym form ∙ ap (option_map as_command) (is ∙ ap Some same)

-- words that ask for a command that is there, and its answer
module _ (words : List (List ℕ)) (command : Command) (told o : Outcome) (form : form_of words ≡ Some command) (is_there : there command ≡ Some command) (same : told ≡ o) where
  pub caused_by : (a : Around) → CommandCaused command a o → Caused words a told
  caused_by a did = rw (same, form, is_there) did

  pub refusal_by : (P : Type 0) → OnRefusal (Some command) o P → OnRefusal (command_of words) told P
  refusal_by P p = rw (same, form, is_there) p

  pub input_by : (P : Type 0) → OnNoInput (Some command) o P → OnNoInput (command_of words) told P
  input_by P p = rw (same, form, is_there) p
