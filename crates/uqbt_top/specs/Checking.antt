-- What `check` does with its files' bytes, by the answer.
use Rattle.std.specs.Prelude.{◌≡◌, ℕ, List}
use Rattle.edge_io.specs.Output.{Output}
use Rattle.descriptions.specs.declared.described.Described.{Described}
use Rattle.uqbt_top.specs.declared.outcome.Outcome.{Outcome}
use Rattle.uqbt_top.specs.declared.outcome.Outcome.TheVariants.{Done, Description, NoMemory}
use Rattle.uqbt_top.specs.Built.{Descriptions, AreOf, IsFirstFault, of_check}

-- the descriptions describe a machine
pub record IsAccepted (t : Descriptions) : Type 0 where
  pub described : Described
  pub of : AreOf t described

-- what `check` found, by the answer
abbrev pub CheckDid : Descriptions → Outcome → Type 0
CheckDid t Done = IsAccepted t
CheckDid t (Description file fault) = IsFirstFault t file fault
CheckDid t NoMemory = Unit {0}
CheckDid t _ = ⊥

-- the bytes of the files of `check`, and what was done with them; it writes nothing
pub record CheckRead (bytes : List (List ℕ)) (out out' : Output) (outcome : Outcome) : Type 0 where
  pub texts : Descriptions
  pub whole : bytes ≡ of_check texts
  pub did : CheckDid texts outcome
  pub kept : out' ≡ out
