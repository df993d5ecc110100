-- A jump has one table, and its targets are addresses.
use Rattle.std.specs.Prelude.{◌≡◌, ℕ, ◌<◌, ◌^◌, List}
use Rattle.std.specs.List.{Contains}
use Rattle.points.specs.Bundles.{IsSoundSetting}
use Rattle.points.specs.Flows.{HasTables}
use Rattle.points.specs.Machine.{Setting}
use Rattle.points.specs.Tables.{IsTable}

-- at most one list is the table of the jump at an address
abbrev pub TableIsOne : Type 0
TableIsOne = (s : Setting) (at : ℕ) (xs ys : List ℕ) → IsTable s at xs → IsTable s at ys → xs ≡ ys

-- a table for each computed plain jump
pub record Tables (s : Setting) : Type 0 where
  pub table : ℕ → List ℕ
  pub are : HasTables s table

-- each computed plain jump has one
abbrev pub TablesExist : Type 0
TablesExist = (s : Setting) → Tables s

-- the targets have 32 bits
abbrev pub TargetsAreAddresses : Type 0
TargetsAreAddresses = (s : Setting) → IsSoundSetting s → (at : ℕ) (targets : List ℕ) (a : ℕ) → at < 2 ^ 32 → IsTable s at targets → Contains targets a → a < 2 ^ 32
