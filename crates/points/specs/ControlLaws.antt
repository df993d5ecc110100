-- Where control looks up a table, and which points it can't reach.
use Rattle.std.specs.Prelude.{◌≡◌, ◌≢◌, ◌⊎◌, ℕ, true, List}
use Rattle.std.specs.List.{Contains}
use Rattle.rtl_core.specs.declared.point.Point.{Point}
use Rattle.rtl_core.specs.declared.point.Slot.TheVariants.{Seq, Dyn}
use Rattle.rtl_core.specs.SoundEncodings.{IsSoundEncodings}
use Rattle.points.specs.declared.block.Next.TheVariants.{Goes, Table}
use Rattle.points.specs.Bodies.{Code, code_of, nexts, Body}
use Rattle.points.specs.Courses.{point}
use Rattle.points.specs.Flows.{is_computed}
use Rattle.points.specs.Machine.{Setting}

-- a computed plain jump stands at the point, with nothing to come
abbrev pub JumpsAt : Code → Point → ℕ → Type 0
JumpsAt code q a = (q ≡ point a Seq) × (is_computed (code.block_at a) ≡ true)

-- control looks a table up at its jump, or in the slot behind it, and only the jump leads into that slot
pub record IsControl (code : Code) : Type 0 where
  pub looked_up : (q : Point) (a : ℕ) → Contains (nexts code q) (Table a) → JumpsAt code q a ⊎ (q.slot ≡ Dyn a)
  pub delayed : (q p : Point) (a : ℕ) → Contains (nexts code q) (Goes p) → p.slot ≡ Dyn a → JumpsAt code q a

-- so it is with the program of each setting
abbrev pub CodeIsControl : Type 0
CodeIsControl = (setting : Setting) (table : ℕ → List ℕ) → IsControl (code_of setting table)

-- on sound encodings no body has a point at which a jump waits that stands there itself
abbrev pub NoJumpWaitsForItself : Type 0
NoJumpWaitsForItself = (setting : Setting) (table : ℕ → List ℕ) (entry : ℕ) (p : Point) → IsSoundEncodings setting.encodings → Body (code_of setting table) entry p → p.slot ≢ Dyn p.pc
