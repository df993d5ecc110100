-- What control can reach: successors, the bodies of procedures, and the procedures of a program, as least sets.
use Rattle.std.specs.Prelude.{◌≡◌, ℕ, ◌++◌, List, ◌∷◌, filter, Option, Some}
use Rattle.std.specs.List.{Contains}
use Rattle.rtl_core.specs.declared.point.Point.{Point}
use Rattle.rtl_core.specs.declared.point.Slot.TheVariants.{Seq}
use Rattle.rtl_core.specs.Code.{is_code}
use Rattle.points.specs.declared.block.Block.{Block}
use Rattle.points.specs.declared.block.Next.{Next}
use Rattle.points.specs.declared.block.Next.TheVariants.{Goes, Table, Calls, CallsAny}
use Rattle.points.specs.Machine.{Setting}
use Rattle.points.specs.Kinds.{block_at, second}
use Rattle.points.specs.Courses.{point, after, arrival_next}

-- what is asked of a program to find what control can reach
pub record Code : Type 0 where
  -- what stands at an address
  pub block_at : ℕ → Block
  -- all that control can do at a point with this block
  pub after : Point → Block → List Next
  -- the targets of the computed plain jump at an address
  pub table : ℕ → List ℕ
  -- the second return point of a return address
  pub second : ℕ → Option ℕ

-- the program of a setting, with these targets of its computed plain jumps
abbrev pub code_of : Setting → (ℕ → List ℕ) → Code
code_of setting table = record { block_at = block_at setting; after = after setting.machine; table = table; second = second setting }

-- all that control can do at a point
abbrev pub nexts : Code → Point → List Next
nexts code p = code.after p (code.block_at p.pc)

-- the arrival that the slot of a point holds, whether or not it is ever made, and all that control can do there
abbrev pub arrivals : Code → Point → List Next
arrivals code p = arrival_next p.slot ∷ nexts code p

-- a call of the procedure at t is to come at a point, or a step there can make one at once
pub record Enters (code : Code) (p : Point) (t : ℕ) : Type 0 where
  pub back : ℕ
  pub calls : Contains (arrivals code p) (Calls t back)

-- some of these are a call with this return address
pub data CallsBack (ns : List Next) (back : ℕ) : Type 0 where
  given : {t : ℕ} → Contains ns (Calls t back) → CallsBack ns back
  any : Contains ns (CallsAny back) → CallsBack ns back

-- the successors of a point: where control goes on, where its table leads, and where its call may come back to
pub data LeadsTo (code : Code) (p : Point) : Point → Type 0 where
  goes : {q : Point} → Contains (nexts code p) (Goes q) → LeadsTo code p q
  jumps : {a t : ℕ} → Contains (nexts code p) (Table a) → Contains (code.table a) t → LeadsTo code p (point t Seq)
  back : {r : ℕ} → CallsBack (nexts code p) r → LeadsTo code p (point r Seq)
  past : {r s : ℕ} → CallsBack (nexts code p) r → code.second r ≡ Some s → LeadsTo code p (point s Seq)

-- the body of the procedure at an entry: all points that successors reach from there
pub data Body (code : Code) (entry : ℕ) : Point → Type 0 where
  first : Body code entry (point entry Seq)
  next : {p q : Point} → Body code entry p → LeadsTo code p q → Body code entry q

-- the procedures: those at the roots, and those that a call in the body of one enters
pub data Procedure (code : Code) (roots : List ℕ) : ℕ → Type 0 where
  root : {p : ℕ} → Contains roots p → Procedure code roots p
  called : {p t : ℕ} {q : Point} → Procedure code roots p → Body code p q → Enters code q t → Procedure code roots t

-- a point of the body of some procedure
pub record IsReached (code : Code) (roots : List ℕ) (p : Point) : Type 0 where
  pub entry : ℕ
  pub procedure : Procedure code roots entry
  pub body : Body code entry p

-- where procedures begin for other reasons than a call: at the entry, at each symbol of a function in code, and where a line of the conventions says so
abbrev pub roots_of : Setting → ℕ → List ℕ → List ℕ
roots_of setting entry symbols = (entry ∷ filter (is_code setting.frozen) symbols) ++ setting.conv.entries
