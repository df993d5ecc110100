-- What `translate` does with its files' bytes, by the answer.
use Rattle.std.specs.Prelude.{◌≡◌, ℕ, List}
use Rattle.edge_io.specs.Output.{Output}
use Rattle.c_lang.specs.declared.tree.Program.{Program}
use Rattle.c_text.specs.Output.{TookText, TookPartOfText}
use Rattle.uqbt_top.specs.declared.outcome.Outcome.{Outcome}
use Rattle.uqbt_top.specs.declared.outcome.Outcome.TheVariants.{Done, Description, Executable, NoMemory, WriteFault}
use Rattle.uqbt_top.specs.Built.{BodiesAreOver, Descriptions, IsFirstFault, IsUnusable, Translates, with_exe}

-- the sink took a text of a translation of the files
pub record Translated (t : Descriptions) (exe : List ℕ) (out out' : Output) : Type 0 where
  pub program : Program
  pub of : Translates t exe program
  pub took : TookText out out' program

-- the sink failed after it took a proper front of a text of a translation of the files
pub record BrokeOff (t : Descriptions) (exe : List ℕ) (out out' : Output) : Type 0 where
  pub program : Program
  pub of : Translates t exe program
  pub took : TookPartOfText out out' program

-- what `translate` did with the files' bytes, by the answer
abbrev pub TranslateDid : Descriptions → List ℕ → Output → Output → Outcome → Type 0
TranslateDid t exe out out' Done = Translated t exe out out'
TranslateDid t exe out out' WriteFault = BrokeOff t exe out out'
TranslateDid t exe out out' (Description file fault) = IsFirstFault t file fault
TranslateDid t exe out out' (Executable fault) = IsUnusable BodiesAreOver t exe fault
TranslateDid t exe out out' NoMemory = Unit {0}
TranslateDid t exe out out' _ = ⊥

-- the bytes of the files of `translate`, and what was done with them
pub record TranslateRead (bytes : List (List ℕ)) (out out' : Output) (outcome : Outcome) : Type 0 where
  pub texts : Descriptions
  pub exe : List ℕ
  pub whole : bytes ≡ with_exe texts exe
  pub did : TranslateDid texts exe out out' outcome

-- a fact of `translate` for the answers before the output
abbrev pub TranslateKeepsOut : Outcome → Type 0 → Type 0
TranslateKeepsOut Done kept = Unit {0}
TranslateKeepsOut WriteFault kept = Unit {0}
TranslateKeepsOut _ kept = kept
