-- The straight line of instructions from an address on, and where it ends.
use Rattle.std.specs.Prelude.{ℕ, zero, suc, ◌&&◌, Bool, true, false, is_none, if◌then◌else◌, List, Option, Some, None}
use Rattle.std.specs.List.{list_any}
use Rattle.rtl_core.specs.declared.inst.GroundInst.{GroundInst}
use Rattle.rtl_core.specs.declared.transfer.Act.{Act}
use Rattle.rtl_core.specs.declared.transfer.Act.TheVariants.{Jump, Annul, Trap}
use Rattle.rtl_core.specs.declared.transfer.Transfer.{Transfer}
use Rattle.points.specs.declared.block.Standing.{Standing}
use Rattle.points.specs.declared.block.Standing.TheVariants.{Outside, Illegal, Stands}
use Rattle.points.specs.Machine.{Setting, standing}

-- whether an act, where it is done, keeps control from going on: a trap, a jump or an annul
abbrev pub leaves : Act → Bool
leaves (Jump e) = true
leaves Annul = true
leaves (Trap e) = true
leaves _ = false

-- whether a transfer always keeps control from going on: it has no guard
abbrev pub always_leaves : Transfer → Bool
always_leaves t = is_none t.guard && leaves t.act

-- whether control never goes on behind an instruction with these transfers
abbrev pub never_goes_on : List Transfer → Bool
never_goes_on ts = list_any always_leaves ts

-- the address behind an instruction, where control can go on
abbrev pub behind : GroundInst → Option ℕ
behind inst = if never_goes_on inst.transfers then None else Some inst.next

-- the address behind, where the line goes on
abbrev pub onward : Standing → Option ℕ
onward Outside = None
onward Illegal = None
onward (Stands inst) = behind inst

-- on at an address, where there is one
abbrev pub along : {A : Type 0} → A → Option ℕ → (ℕ → A) → A
along stays None go = stays
along stays (Some pc) go = go pc

-- whether the line has at most n addresses
abbrev pub ends_within : Setting → ℕ → ℕ → Bool
ends_within setting zero pc = false
ends_within setting (suc n) pc = along true (onward (standing setting pc)) (ends_within setting n)
