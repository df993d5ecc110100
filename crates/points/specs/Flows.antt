-- When what control asks of the whole program is so.
use Rattle.std.specs.Prelude.{◌≡◌, ◌↔◌, ℕ, ◌<◌, ◌^◌, Bool, true, false, IsTrue, List}
use Rattle.points.specs.declared.block.Block.{Block}
use Rattle.points.specs.declared.block.Block.TheVariants.{Inst}
use Rattle.points.specs.declared.block.JumpKind.{JumpKind}
use Rattle.points.specs.declared.block.JumpKind.TheVariants.{Dyn}
use Rattle.points.specs.Machine.{Setting}
use Rattle.points.specs.Kinds.{block_at}
use Rattle.points.specs.Control.{Flow}
use Rattle.points.specs.Bodies.{code_of, roots_of, Procedure}
use Rattle.points.specs.Tables.{IsTable}

-- a plain jump to a computed target
abbrev pub is_computed_kind : JumpKind → Bool
is_computed_kind Dyn = true
is_computed_kind _ = false

-- an instruction with such a jump
abbrev pub is_computed : Block → Bool
is_computed (Inst inst kind) = is_computed_kind kind
is_computed _ = false

-- the targets of each computed plain jump are its table
pub record HasTables (setting : Setting) (table : ℕ → List ℕ) : Type 0 where
  pub each : (a : ℕ) → a < 2 ^ 32 → is_computed (block_at setting a) ≡ true → IsTable setting a (table a)

-- the program with this entry and these function symbols: its tables are those of its jumps, and its procedures are exactly
-- those that the entry, the symbols in code, the lines of the conventions and the calls in bodies give
pub record IsFlow (setting : Setting) (entry : ℕ) (symbols : List ℕ) (f : Flow) : Type 0 where
  pub setting_is : f.setting ≡ setting
  pub tables : HasTables setting f.table
  pub procedures : (p : ℕ) → IsTrue (f.is_procedure p) ↔ Procedure (code_of setting f.table) (roots_of setting entry symbols) p
