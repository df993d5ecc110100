-- The last open call of a call list.
use Rattle.std.specs.Prelude.{ℕ, List, [], ◌∷◌, Option, Some, None}
use Rattle.points.specs.declared.block.Member.{Member}
use Rattle.points.specs.declared.block.Member.TheVariants.{Call, Tail}

-- its return address, and the members before it
pub record OpenCall : Type 0 where
  pub back : ℕ
  pub rest : List Member

-- the last open call, if one is
abbrev pub open_call : List Member → Option OpenCall
open_call [] = None
open_call (Tail ∷ calls) = open_call calls
open_call (Call back ∷ calls) = Some (record { back = back; rest = calls })
