-- The table of a computed plain jump: the targets that the instructions right before it show.
use Rattle.std.specs.Prelude.{◌≡◌, ◌≢◌, ℕ, ◌+◌, ◌<◌, ◌≤◌, true, false, List, [], ◌∷◌, length, Some, is_some, IsTrue}
use Rattle.std.specs.List.{list_any, Contains}
use Rattle.std.specs.List.Sorted.{IsStrictlySortedBy}
use Rattle.std.specs.Ordering.{nat_cmp}
use Rattle.rtl_core.specs.declared.frozen.Frozen.{Frozen}
use Rattle.rtl_core.specs.declared.inst.GroundInst.{GroundInst}
use Rattle.rtl_core.specs.Code.{is_code}
use Rattle.rtl_core.specs.SoundTerms.{is_jump}
use Rattle.points.specs.declared.block.Standing.TheVariants.{Stands}
use Rattle.points.specs.Machine.{Setting, standing}
use Rattle.points.specs.Courses.{does_always}
use Rattle.points.specs.PartialRuns.{PartialEnd, partial_end}

-- ---- chains

-- the most instructions of a chain before the jump, and the most bytes from its start to the jump
abbrev pub most_before : ℕ
most_before = 11

abbrev pub most_back : ℕ
most_back = 64

-- an instruction before the jump at an address: it has no jump without a guard, and ends above its start
pub record IsLink (s : Setting) (at pc : ℕ) (i : GroundInst) : Type 0 where
  pub before : pc < at
  pub stands : standing s pc ≡ Stands i
  pub ends : pc < i.next
  pub stays : list_any (does_always is_jump) i.transfers ≡ false

-- instructions that lead up to an address: each stands where the one before it ends
pub data LeadsUp (s : Setting) (at : ℕ) : ℕ → List GroundInst → Type 0 where
  here : LeadsUp s at at []
  more : {pc : ℕ} {i : GroundInst} {is : List GroundInst} → IsLink s at pc i → LeadsUp s at i.next is → LeadsUp s at pc (i ∷ is)

-- a chain, by its start and its instructions before the jump, and a cell to try numbers in
pub record Trial : Type 0 where
  pub start : ℕ
  pub before : List GroundInst
  pub cell : ℕ

-- the chain begins near the jump, is short and leads up to it, and the cell is not the zero cell
pub record IsTrial (s : Setting) (at : ℕ) (t : Trial) : Type 0 where
  pub near : at ≤ t.start + most_back
  pub chain : LeadsUp s at t.start t.before
  pub short : length t.before ≤ most_before
  pub cell : t.cell < length s.machine.widths
  pub not_zero : s.machine.zero ≢ Some t.cell

-- the shortest chain comes first, then the greatest start, then the lowest cell
pub data IsBefore (t u : Trial) : Type 0 where
  shorter : length t.before < length u.before → IsBefore t u
  nearer : length t.before ≡ length u.before → u.start < t.start → IsBefore t u
  lower : length t.before ≡ length u.before → t.start ≡ u.start → t.cell < u.cell → IsBefore t u

-- the first of those trials that have P
pub record IsFirst (s : Setting) (at : ℕ) (P : Trial → Type 0) (t : Trial) : Type 0 where
  pub trial : IsTrial s at t
  pub has : P t
  pub first : (u : Trial) → IsTrial s at u → P u → IsBefore u t → ⊥

-- ---- bounded tables; `f` is what the runs of a trial come to, by the number in its cell

-- the least number that has P
pub record IsLeast (P : ℕ → Type 0) (n : ℕ) : Type 0 where
  pub has : P n
  pub least : (x : ℕ) → x < n → P x → ⊥

-- the greatest number that is tried for a bound
abbrev pub most_tried : ℕ
most_tried = 1024

-- a number that is tried, for which the run leaves
pub record IsLeaving (f : ℕ → PartialEnd) (x : ℕ) : Type 0 where
  pub most : x ≤ most_tried
  pub leaves : (f x).leaves ≡ true

-- a run that stays, with a jump known untaken and a known target
pub record StaysWithin (c : PartialEnd) : Type 0 where
  pub stays : c.leaves ≡ false
  pub untaken : c.untaken ≡ true
  pub known : IsTrue (is_some c.target)

-- the run for 0 stays within, and n is the least number for which a run leaves
pub record IsBoundedBy (f : ℕ → PartialEnd) (n : ℕ) : Type 0 where
  pub start : StaysWithin (f 0)
  pub least : IsLeast (IsLeaving f) n

pub record IsBounded (f : ℕ → PartialEnd) : Type 0 where
  pub bound : ℕ
  pub is : IsBoundedBy f bound

-- ---- tables without a bound

-- a run has a known target in code
pub record GivesCode (frozen : Frozen) (c : PartialEnd) : Type 0 where
  pub target : ℕ
  pub is : c.target ≡ Some target
  pub in_code : is_code frozen target ≡ true

-- the run for 0 stays, and gives a target in code
pub record IsOpen (frozen : Frozen) (f : ℕ → PartialEnd) : Type 0 where
  pub stays : (f 0).leaves ≡ false
  pub gives : GivesCode frozen (f 0)

-- how many targets a table without a bound may have
abbrev pub most_open : ℕ
most_open = 256

-- n is the first number without a known target in code, or the most
pub record EndsAt (frozen : Frozen) (f : ℕ → PartialEnd) (n : ℕ) : Type 0 where
  pub most : n ≤ most_open
  pub gives : (x : ℕ) → x < n → GivesCode frozen (f x)
  pub ends : n < most_open → GivesCode frozen (f n) → ⊥

-- ---- the table

-- a list holds exactly the known targets for the numbers below n, ascending
pub record AreTargets (f : ℕ → PartialEnd) (n : ℕ) (targets : List ℕ) : Type 0 where
  pub rises : IsStrictlySortedBy nat_cmp targets
  pub sound : (a : ℕ) → Contains targets a → (x : ℕ) × (x < n) × ((f x).target ≡ Some a)
  pub whole : (x a : ℕ) → x < n → (f x).target ≡ Some a → Contains targets a

-- what the runs of a trial come to
abbrev pub end_for : Setting → GroundInst → Trial → ℕ → PartialEnd
end_for s jump t = partial_end s t.before jump t.cell

-- this chain is bounded with its cell
abbrev pub IsBoundedFor : Setting → GroundInst → Trial → Type 0
IsBoundedFor s jump t = IsBounded (end_for s jump t)

-- this chain is open with its cell
abbrev pub IsOpenFor : Setting → GroundInst → Trial → Type 0
IsOpenFor s jump t = IsOpen s.frozen (end_for s jump t)

-- no chain is bounded with any cell
abbrev pub NoneIsBounded : Setting → ℕ → GroundInst → Type 0
NoneIsBounded s at jump = (u : Trial) → IsTrial s at u → IsBoundedFor s jump u → ⊥

-- the table of the jump that stands at an address: that of the first chain with a cell that is bounded; where none is, that of the
-- first which is open; where there is none of these either, it is empty
pub data IsTableOf (s : Setting) (at : ℕ) (jump : GroundInst) (targets : List ℕ) : Type 0 where
  bounded : {t : Trial} {n : ℕ} → IsFirst s at (IsBoundedFor s jump) t → IsBoundedBy (end_for s jump t) n → AreTargets (end_for s jump t) n targets → IsTableOf s at jump targets
  open_ended : {t : Trial} {n : ℕ} → NoneIsBounded s at jump → IsFirst s at (IsOpenFor s jump) t → EndsAt s.frozen (end_for s jump t) n → AreTargets (end_for s jump t) n targets → IsTableOf s at jump targets
  none : NoneIsBounded s at jump → ((u : Trial) → IsTrial s at u → IsOpenFor s jump u → ⊥) → targets ≡ [] → IsTableOf s at jump targets

-- the table of the jump at an address, whatever instruction stands there
pub record IsTable (s : Setting) (at : ℕ) (targets : List ℕ) : Type 0 where
  pub jump : GroundInst
  pub stands : standing s at ≡ Stands jump
  pub table : IsTableOf s at jump targets
